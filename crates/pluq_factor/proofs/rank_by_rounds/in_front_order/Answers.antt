use Rattle.std.proofs.Common.{subst, sym}
use Rattle.std.proofs.lemmas.Result.{IfOk-weaker}
use Rattle.weight_order.specs.Keeping.{KeepsRank}
use Rattle.pluq_factor.proofs.rank_by_rounds.in_front_order.Goals as goal

pub returns : goal.returns
returns c = IfOk-weaker c.of.result _ _ (λ m is. subst (KeepsRank c.args.matrix.rows) (sym is) c.in_ok-ordered.ensures.rank) c.of.ensures
