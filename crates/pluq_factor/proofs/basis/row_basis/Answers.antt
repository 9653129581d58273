use Rattle.std.proofs.lemmas.Result.{IfOk-weaker}
use Rattle.pluq_factor.proofs.Turning.{basis_turned}
use Rattle.pluq_factor.proofs.basis.row_basis.Goals as goal

pub returns : goal.returns
returns g c = IfOk-weaker c.basis_by.result _ _ (λ U based. basis_turned c.in_ok-turned.ensures based) c.basis_by.ensures
