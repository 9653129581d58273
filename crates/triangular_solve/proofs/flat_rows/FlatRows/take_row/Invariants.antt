use Rattle.std.proofs.Common.{length}
use Rattle.lead_rows.specs.Accumulator.{IsAlike}
use Rattle.triangular_solve.proofs.TakenRows.{IsTaking}
use Rattle.triangular_solve.proofs.flat_rows.FlatRows.take_row.Given as goal

abbrev pub invariant-loop-k : goal.invariant-loop-k
invariant-loop-k l = record {
  sums : IsAlike l.fn.sums l.sums;
  passed : IsAlike l.fn.passed l.passed;
  taking : IsTaking l.pivots l.cols l.vals l.k (length l.fn.passed.row) l.sums.row l.passed.row;
}
