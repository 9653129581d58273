use Rattle.std.proofs.Common.{ℕ, List, ap, arith, length, refl, subst, sym}
use Rattle.sparse_rows.specs.Rows.{AreBelow, AreDistinct, AreEnoughInSomeOrder}
use Rattle.pluq_factor.proofs.Reordering.{order_enough, order_inside, order_long}
use Rattle.pluq_factor.proofs.reordered.Reordered.of.Goals as goal

pub places_of-requires-clause-few : goal.places_of-requires-clause-few
places_of-requires-clause-few c = omega (arith, ap length c.deref.ensures.value, order_long c.in_ok-order.ensures, c.is_sound.ensures.width)

pub places_of-requires-clause-below : goal.places_of-requires-clause-below
places_of-requires-clause-below c = subst (λ (order : List ℕ). AreBelow (length order) order) (sym c.deref.ensures.value) (order_inside c.args.rows.now.matrix.width c.in_ok-order.ensures)

pub places_of-requires-clause-distinct : goal.places_of-requires-clause-distinct
places_of-requires-clause-distinct c = subst AreDistinct (sym c.deref.ensures.value) (order_enough c.in_ok-order.ensures {A = c.args.rows.now.matrix} refl).distinct

pub columns_in_order-requires-clause-few : goal.columns_in_order-requires-clause-few
columns_in_order-requires-clause-few c = omega (arith, ap length c.deref-2.ensures.value, order_long c.in_ok-order.ensures, c.is_sound.ensures.width)

pub columns_in_order-requires-clause-columns : goal.columns_in_order-requires-clause-columns
columns_in_order-requires-clause-columns c = subst (AreEnoughInSomeOrder c.args.rows.now.matrix) (sym c.deref-2.ensures.value) (order_enough c.in_ok-order.ensures {A = c.args.rows.now.matrix} refl)
