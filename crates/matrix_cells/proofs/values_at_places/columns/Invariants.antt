use Rattle.std.proofs.Common.{◌≡◌, map, take}
use Rattle.matrix_cells.specs.Cells.{column_of}
use Rattle.matrix_cells.proofs.values_at_places.columns.Given as goal

abbrev pub invariant-loop-cell : goal.invariant-loop-cell
invariant-loop-cell l = l.columns.items ≡ map column_of (take l.cell-index l.cells)
