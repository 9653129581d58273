use Rattle.kernel_solve.proofs.Basis.{IsBasisSoFar}
use Rattle.kernel_solve.proofs.bases.append_basis.Given as goal

abbrev pub invariant-loop-f : goal.invariant-loop-f
invariant-loop-f l = IsBasisSoFar l.form l.f l.next l.basis l.row
