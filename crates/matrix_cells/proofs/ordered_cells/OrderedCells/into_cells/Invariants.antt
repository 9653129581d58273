use Rattle.std.proofs.Common.{length, ◌≡◌, ◌<◌, ◌≤◌, slice_index, take}
use Rattle.matrix_cells.specs.Cells.{ordered_cells}
use Rattle.matrix_cells.proofs.ordered_cells.OrderedCells.into_cells.Given as goal

abbrev pub invariant-loop-k : goal.invariant-loop-k
invariant-loop-k l = record {
  made : l.cells.items ≡ take l.k (ordered_cells l.self-inside.starts.items l.self-inside.cols.items l.self-inside.vals.items);
  begun : l.row < length l.self-inside.starts.items;
  before : slice_index l.self-inside.starts.items l.row ≤ l.k;
}
