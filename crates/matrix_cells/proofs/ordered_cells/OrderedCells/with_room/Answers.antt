use Rattle.matrix_cells.proofs.Ordered.{cells_none, ordered_none}
use Rattle.matrix_cells.proofs.ordered_cells.OrderedCells.with_room.Goals as goal

pub invariant_of-result : goal.invariant_of-result
invariant_of-result c = rw (c.in_ok-with_capacity.ensures.items, c.in_ok-with_capacity-2.ensures.items, c.in_ok-with_capacity-3.ensures.items) ordered_none

pub returns : goal.returns
returns c = rw (c.in_ok-with_capacity.ensures.items, c.in_ok-with_capacity-2.ensures.items, c.in_ok-with_capacity-3.ensures.items) cells_none
