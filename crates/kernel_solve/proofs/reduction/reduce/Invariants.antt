use Rattle.kernel_solve.proofs.Reducing.{IsCleared}
use Rattle.kernel_solve.proofs.reduction.reduce.Given as goal

abbrev pub invariant-loop-k : goal.invariant-loop-k
invariant-loop-k l = IsCleared l.fn.null.modulus l.fn.null.matrix l.fn.x l.k l.x
