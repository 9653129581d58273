use Rattle.matrix_cells.proofs.Ordered.{cells_none, ordered_none}
use Rattle.matrix_cells.proofs.ordered_cells.OrderedCells.new.Goals as goal

pub invariant_of-result : goal.invariant_of-result
invariant_of-result c = rw (c.new.ensures.items, c.new-2.ensures.items, c.new-3.ensures.items) ordered_none

pub returns : goal.returns
returns c = rw (c.new.ensures.items, c.new-2.ensures.items, c.new-3.ensures.items) cells_none
