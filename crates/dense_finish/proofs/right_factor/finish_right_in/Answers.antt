use Rattle.std.proofs.lemmas.Result.{IfOk-weaker}
use Rattle.dense_finish.proofs.LeftThere.{right_assembled}
use Rattle.dense_finish.proofs.right_factor.finish_right_in.Goals as goal

pub returns : goal.returns
returns g c = IfOk-weaker c.into_right_factor.result _ _ (λ right. right_assembled c.in_ok-block.ensures.block c.in_ok-pivots.ensures) c.into_right_factor.ensures
