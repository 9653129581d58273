use Rattle.std.proofs.Common.{◌-◌, length}
use Rattle.lead_rows.specs.Accumulator.{IsAlike}
use Rattle.triangular_solve.proofs.JoinedRows.{IsAppending}
use Rattle.triangular_solve.proofs.column_order.append_before.Given as goal

abbrev pub invariant-loop-at : goal.invariant-loop-at
invariant-loop-at l = IsAlike l.fn.to l.to × IsAppending l.row.row l.from l.end l.fn.to.row l.to.row l.at

abbrev pub decreases-loop-at : goal.decreases-loop-at
decreases-loop-at l = length l.cols - l.at
