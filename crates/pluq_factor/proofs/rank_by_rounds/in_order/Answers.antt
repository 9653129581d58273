use Rattle.std.proofs.Common.{subst, sym}
use Rattle.std.proofs.lemmas.Result.{IfOk-weaker}
use Rattle.weight_order.specs.Keeping.{KeepsRank}
use Rattle.weight_order.proofs.Keeping.{keeps_chained}
use Rattle.pluq_factor.proofs.rank_by_rounds.in_order.Goals as goal

pub returns : goal.returns
returns c =
    IfOk-weaker c.of.result _ _ (λ m is. subst (KeepsRank c.args.rows) (sym is) (keeps_chained c.in_ok-distinct.ensures c.in_ok-ordered.ensures.rank)) c.of.ensures
