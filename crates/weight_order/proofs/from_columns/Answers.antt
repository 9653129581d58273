use Rattle.std.proofs.Common.{subst, sym}
use Rattle.std.proofs.lemmas.Result.{IfOk-weaker}
use Rattle.sparse_rows.specs.Rows.{transposed}
use Rattle.weight_order.specs.Keeping.{AreFilledInSomeOrder}
use Rattle.weight_order.proofs.Shape.{occupied_filled, rarest_first_of}
use Rattle.weight_order.proofs.from_columns.Goals as goal

pub columns_in_order-requires : goal.columns_in_order-requires
columns_in_order-requires c = subst (AreFilledInSomeOrder (transposed c.args.turned.columns.matrix)) (sym c.deref.ensures.value)
    (c.args.turned.occupied.items, occupied_filled c.is_sound.ensures.entries _ c.requires.occupied, c.of-order.ensures)

pub returns-clause-shape : goal.returns-clause-shape
returns-clause-shape c =
    IfOk-weaker c.columns_in_order.result _ _ (λ made. rarest_first_of c.is_sound.ensures.entries c.requires.shape
    (subst (AreFilledInSomeOrder (transposed c.args.turned.columns.matrix)) (sym c.deref.ensures.value)
    (c.args.turned.occupied.items, occupied_filled c.is_sound.ensures.entries _ c.requires.occupied, c.of-order.ensures)))
    c.columns_in_order.ensures.rows
