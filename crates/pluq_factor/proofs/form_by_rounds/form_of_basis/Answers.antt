use Rattle.std.proofs.lemmas.Result.{IfOk-weaker}
use Rattle.pluq_factor.proofs.Turning.{form_turned}
use Rattle.pluq_factor.proofs.form_by_rounds.form_of_basis.Goals as goal

pub returns : goal.returns
returns g c = IfOk-weaker c.made_by.result _ _ (λ form made. form_turned c.in_ok-turned.ensures made) c.made_by.ensures
