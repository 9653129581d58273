use Rattle.std.proofs.lemmas.Result.{IfOk-weaker}
use Rattle.cert_checker.proofs.showing.is_zero_product.Goals as goal

pub returns : goal.returns
returns c = IfOk-weaker c.is_product.result _ _ (λ yes told. rw (c.in_ok-nothing.ensures.matrix, c.height.ensures.value, c.width.ensures.value) at told) c.is_product.ensures
