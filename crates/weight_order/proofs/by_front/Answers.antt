use Rattle.std.proofs.lemmas.Result.{IfOk-weaker}
use Rattle.weight_order.proofs.Keeping.{keeps_chained}
use Rattle.weight_order.proofs.by_front.Goals as goal

pub returns-clause-rank : goal.returns-clause-rank
returns-clause-rank c = IfOk-weaker c.in_front_order.result _ _ (λ s. keeps_chained c.in_ok-ordered.ensures.rank) c.in_front_order.ensures.rank
