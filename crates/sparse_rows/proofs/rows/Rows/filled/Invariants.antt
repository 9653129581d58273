use Rattle.std.proofs.Common.{◌-◌}
use Rattle.sparse_rows.proofs.FilledRows.{IsFilledSoFar}
use Rattle.sparse_rows.proofs.rows.Rows.filled.Given as goal

abbrev pub invariant-loop-i : goal.invariant-loop-i
invariant-loop-i l = IsFilledSoFar l.self.matrix l.from l.filled.items

abbrev pub decreases-loop-i : goal.decreases-loop-i
decreases-loop-i l = l.self.matrix.height - l.from
