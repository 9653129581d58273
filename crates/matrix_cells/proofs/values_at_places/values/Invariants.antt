use Rattle.std.proofs.Common.{◌≡◌, map, take}
use Rattle.matrix_cells.proofs.values_at_places.values.Given as goal

abbrev pub invariant-loop-cell : goal.invariant-loop-cell
invariant-loop-cell l = l.values.items ≡ map (λ c. c.val) (take l.cell-index l.cells)
