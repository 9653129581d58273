use Rattle.std.proofs.Common.{◌≡◌}
use Rattle.sparse_rows.proofs.Loops.{IsCopiedSoFar}
use Rattle.sparse_rows.proofs.rows.Rows.copy_shifted.Given as goal

abbrev pub invariant-loop-k : goal.invariant-loop-k
invariant-loop-k l = (l.to.modulus ≡ l.fn.to.modulus) × IsCopiedSoFar l.by l.k l.cols l.vals l.fn.to.row l.to.row
