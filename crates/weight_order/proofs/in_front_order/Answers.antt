use Rattle.std.proofs.Common.{arith}
use Rattle.std.proofs.lemmas.List.Sorted.{length_permutation}
use Rattle.weight_order.proofs.Keeping.{keeps_itself}
use Rattle.weight_order.proofs.in_front_order.Goals as goal

pub with_rarest_first-requires-clause-order : goal.with_rarest_first-requires-clause-order
with_rarest_first-requires-clause-order c = (c.in_ok-filled.filled.items, c.in_ok-filled.ensures, c.in_ok-order.ensures)

pub with_rarest_first-requires-clause-few : goal.with_rarest_first-requires-clause-few
with_rarest_first-requires-clause-few c =
    omega (arith, c.if-len.false, c.len.ensures, c.len-2.ensures, length_permutation c.in_ok-filled.filled.items c.in_ok-order.order.items c.in_ok-order.ensures)
