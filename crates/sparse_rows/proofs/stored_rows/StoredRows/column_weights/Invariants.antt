use Rattle.sparse_rows.specs.Rows.{transposed}
use Rattle.sparse_rows.proofs.FilledRows.{AreWeightsSoFar}
use Rattle.sparse_rows.proofs.stored_rows.StoredRows.column_weights.Given as goal

abbrev pub invariant-loop-j : goal.invariant-loop-j
invariant-loop-j l = AreWeightsSoFar (transposed l.self.matrix) l.j l.weights.items
