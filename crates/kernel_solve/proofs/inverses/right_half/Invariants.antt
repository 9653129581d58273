use Rattle.kernel_solve.proofs.RightHalf.{IsHalfSoFar}
use Rattle.kernel_solve.proofs.inverses.right_half.Given as goal

abbrev pub invariant-loop-i : goal.invariant-loop-i
invariant-loop-i l = IsHalfSoFar l.rows l.n l.i l.half l.row
