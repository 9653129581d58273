use Rattle.std.proofs.Common.{◌≡◌, map, take}
use Rattle.matrix_cells.specs.Cells.{row_of}
use Rattle.matrix_cells.proofs.values_at_places.row_numbers.Given as goal

abbrev pub invariant-loop-cell : goal.invariant-loop-cell
invariant-loop-cell l = l.rows.items ≡ map row_of (take l.cell-index l.cells)
