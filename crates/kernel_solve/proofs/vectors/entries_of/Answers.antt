use Rattle.std.proofs.Common.{◌∙◌}
use Rattle.std.proofs.lemmas.Result.{IfOk-weaker}
use Rattle.kernel_solve.proofs.Preparing.{times_one}
use Rattle.kernel_solve.proofs.vectors.entries_of.Goals as goal

pub returns : goal.returns
returns c = IfOk-weaker c.times.result _ _ (λ side is. is ∙ times_one c.args.b.now.modulus c.args.b.now.matrix c.is_sound.ensures.entries c.requires) c.times.ensures
