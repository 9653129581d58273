use Rattle.std.proofs.Common.{◌≡◌, map}
use Rattle.std.specs.List.{range_with_len}
use Rattle.matrix_cells.specs.Cells.{listed_cell}
use Rattle.matrix_cells.proofs.values_at_places.listed.Given as goal

abbrev pub invariant-loop-k : goal.invariant-loop-k
invariant-loop-k l = l.cells.items ≡ map (listed_cell l.rows l.columns l.values) (range_with_len 0 l.k)
