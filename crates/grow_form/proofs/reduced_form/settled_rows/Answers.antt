use Rattle.std.proofs.Common.{length, subst}
use Rattle.std.proofs.lemmas.Result.{IfOk-weaker}
use Rattle.echelon_form.specs.Settling.{AreSettled}
use Rattle.grow_form.proofs.reduced_form.settled_rows.Goals as goal

pub returns-clause-settled : goal.returns-clause-settled
returns-clause-settled c = IfOk-weaker c.settle_all.result _ _ (λ rows h. (
  c.in_ok-order.order.items,
  c.in_ok-order.ensures.order,
  subst (λ o. AreSettled c.args.kept.now o (length o) rows.matrix) c.deref.ensures.value h,
)) c.settle_all.ensures.settled
