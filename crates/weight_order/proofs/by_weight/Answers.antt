use Rattle.std.proofs.lemmas.Result.{IfOk-weaker}
use Rattle.weight_order.proofs.Keeping.{keeps_chained}
use Rattle.weight_order.proofs.by_weight.Goals as goal

pub returns-then-is_wide-clause-rank : goal.returns-then-is_wide-clause-rank
returns-then-is_wide-clause-rank c = IfOk-weaker c.from_columns.result _ _ (λ s. keeps_chained c.in_ok-columns.ensures.rank) c.from_columns.ensures.rank
