use Rattle.std.proofs.Common.{◌≡◌}
use Rattle.kernel_solve.proofs.RightHalf.{IsCopiedFrom}
use Rattle.kernel_solve.proofs.inverses.copy_right_half.Given as goal

abbrev pub invariant-loop-k : goal.invariant-loop-k
invariant-loop-k l = (l.to.modulus ≡ l.fn.to.modulus) × IsCopiedFrom l.n l.k l.cols l.vals l.to.row
