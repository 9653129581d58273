use Rattle.std.proofs.Common.{◌∙◌, ap, ap₂, arith, length, subst, sym}
use Rattle.sparse_rows.specs.Rows.{AreEnoughInSomeOrder, AreWeights, narrowed, selected, transposed}
use Rattle.weight_order.proofs.Keeping.{each_filled, no_more}
use Rattle.weight_order.proofs.Shape.{order_enough, rearranged_is}
use Rattle.weight_order.proofs.with_rarest_first.Goals as goal

pub rearranged-requires-clause-few_rows : goal.rearranged-requires-clause-few_rows
rearranged-requires-clause-few_rows c = omega (arith, ap length c.deref-2.ensures.value, no_more c.requires.order, c.is_sound.ensures.height)

pub rearranged-requires-clause-rows : goal.rearranged-requires-clause-rows
rearranged-requires-clause-rows c = rw c.deref-2.ensures.value (each_filled c.requires.order).inside

pub rearranged-requires-clause-few_columns : goal.rearranged-requires-clause-few_columns
rearranged-requires-clause-few_columns c =
    omega (arith, ap length c.deref-3.ensures.value, no_more (c.in_ok-columns.ensures (transposed c.args.rows.now.matrix) (subst (AreWeights (transposed c.args.rows.now.matrix)) (sym c.deref.ensures.value) c.requires.weights)).0, c.is_sound.ensures.width)

pub rearranged-requires-clause-columns : goal.rearranged-requires-clause-columns
rearranged-requires-clause-columns c = subst (AreEnoughInSomeOrder c.args.rows.now.matrix) (sym c.deref-3.ensures.value)
    (order_enough c.is_sound.ensures.entries (c.in_ok-columns.ensures (transposed c.args.rows.now.matrix) (subst (AreWeights (transposed c.args.rows.now.matrix)) (sym c.deref.ensures.value) c.requires.weights)).0)

pub returns-clause-rank : goal.returns-clause-rank
returns-clause-rank c = (rearranged_is (omega (arith, c.is_sound.ensures.two_or_more)) c.is_sound.ensures.entries c.requires.weights c.requires.order c.requires.few
    (c.in_ok-columns.ensures (transposed c.args.rows.now.matrix) (subst (AreWeights (transposed c.args.rows.now.matrix)) (sym c.deref.ensures.value) c.requires.weights)) c.in_ok-made.ensures.modulus
    (c.in_ok-made.ensures.matrix ∙ ap₂ (λ cs rs. selected (narrowed c.args.rows.now.matrix cs) rs) c.deref-3.ensures.value c.deref-2.ensures.value)).0

pub returns-clause-shape : goal.returns-clause-shape
returns-clause-shape c = (rearranged_is (omega (arith, c.is_sound.ensures.two_or_more)) c.is_sound.ensures.entries c.requires.weights c.requires.order c.requires.few
    (c.in_ok-columns.ensures (transposed c.args.rows.now.matrix) (subst (AreWeights (transposed c.args.rows.now.matrix)) (sym c.deref.ensures.value) c.requires.weights)) c.in_ok-made.ensures.modulus
    (c.in_ok-made.ensures.matrix ∙ ap₂ (λ cs rs. selected (narrowed c.args.rows.now.matrix cs) rs) c.deref-3.ensures.value c.deref-2.ensures.value)).1
