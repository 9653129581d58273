use Rattle.kernel_solve.proofs.Substituting.{IsForward}
use Rattle.kernel_solve.proofs.substitution.forward.Given as goal

abbrev pub invariant-loop-k : goal.invariant-loop-k
invariant-loop-k l = IsForward l.fn.left.modulus l.fn.left.matrix l.fn.pivots l.fn.inverses l.fn.side l.k l.z.items
