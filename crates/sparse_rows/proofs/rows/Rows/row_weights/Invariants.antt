use Rattle.std.proofs.Common.{◌-◌}
use Rattle.sparse_rows.proofs.FilledRows.{AreWeightsSoFar}
use Rattle.sparse_rows.proofs.rows.Rows.row_weights.Given as goal

abbrev pub invariant-loop-i : goal.invariant-loop-i
invariant-loop-i l = AreWeightsSoFar l.self.matrix l.from l.weights.items

abbrev pub decreases-loop-i : goal.decreases-loop-i
decreases-loop-i l = l.self.matrix.height - l.from
