use Rattle.std.proofs.Common.{ap, subst, sym, ◌∙◌}
use Rattle.sparse_rows.specs.Rows.{selected}
use Rattle.weight_order.specs.Keeping.{AreFilledInSomeOrder}
use Rattle.weight_order.proofs.Shape.{rows_are_columns}
use Rattle.weight_order.proofs.rows_as_columns.Goals as goal

pub rows_in_order-requires : goal.rows_in_order-requires
rows_in_order-requires c = subst (AreFilledInSomeOrder c.args.rows.now.matrix) (sym c.deref.ensures.value) (c.in_ok-order.ensures c.args.rows.now.matrix c.in_ok-row_weights.ensures).0

pub returns : goal.returns
returns c = rows_are_columns c.is_sound.ensures.entries c.requires.occupied c.requires.few (c.in_ok-order.ensures c.args.rows.now.matrix c.in_ok-row_weights.ensures)
    c.in_ok-rows_in_order.ensures.rank (c.in_ok-rows_in_order.ensures.rows ∙ ap (selected c.args.rows.now.matrix) c.deref.ensures.value)
