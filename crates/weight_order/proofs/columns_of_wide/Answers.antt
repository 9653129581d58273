use Rattle.std.proofs.Common.{arith, length, subst, sym}
use Rattle.std.proofs.lemmas.Result.{IfOk-weaker}
use Rattle.sparse_rows.specs.Rows.{AreOccupied}
use Rattle.weight_order.specs.Shape.{HasFewFilled}
use Rattle.weight_order.proofs.Shape.{few_rows, few_turned, filled_occupied, turned_are_columns}
use Rattle.weight_order.proofs.columns_of_wide.Goals as goal

pub rows_as_columns-requires-clause-few : goal.rows_as_columns-requires-clause-few
rows_as_columns-requires-clause-few c = few_rows _ _ _ c.in_ok-filled.ensures (omega (arith, c.if-len.true, c.len.ensures, c.len-2.ensures))

pub rows_as_columns-requires-2-clause-occupied : goal.rows_as_columns-requires-2-clause-occupied
rows_as_columns-requires-2-clause-occupied c = subst (λ M. AreOccupied M c.in_ok-filled.filled.items) (sym c.in_ok-columns.ensures.matrix) (filled_occupied c.is_sound.ensures.entries _ c.in_ok-filled.ensures)

pub rows_as_columns-requires-2-clause-few : goal.rows_as_columns-requires-2-clause-few
rows_as_columns-requires-2-clause-few c = subst (λ M. HasFewFilled M (length c.in_ok-filled.filled.items)) (sym c.in_ok-columns.ensures.matrix)
    (few_turned _ _ c.is_sound.ensures.entries c.in_ok-occupied.ensures (omega (arith, c.if-len.false, c.len.ensures, c.len-2.ensures)))

pub returns : goal.returns
returns c = IfOk-weaker c.rows_as_columns-2.result _ _ (λ made. turned_are_columns c.is_sound.ensures.entries c.in_ok-columns.ensures.modulus c.in_ok-columns.ensures.matrix) c.rows_as_columns-2.ensures
