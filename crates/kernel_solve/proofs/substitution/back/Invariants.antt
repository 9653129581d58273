use Rattle.std.proofs.Common.{◌-◌, length}
use Rattle.kernel_solve.proofs.Substituting.{IsBack}
use Rattle.kernel_solve.proofs.substitution.back.Given as goal

abbrev pub invariant-loop-k : goal.invariant-loop-k
invariant-loop-k l = IsBack l.fn.right.modulus l.fn.right.matrix l.fn.pivots l.fn.inverses l.fn.side (length l.fn.pivots - l.k) l.x.items
