use Rattle.std.proofs.Common.{length, ◌≡◌, ◌<◌, ◌≤◌, slice_index, take}
use Rattle.matrix_cells.specs.Cells.{ordered_cells, without_zeros}
use Rattle.matrix_cells.proofs.ordered_cells.OrderedCells.without_zeros.Given as goal

abbrev pub invariant-loop-k : goal.invariant-loop-k
invariant-loop-k l = record {
  made : l.kept ≡ without_zeros (take l.k (ordered_cells l.self-inside.starts.items l.self-inside.cols.items l.self-inside.vals.items));
  begun : l.k < length l.self-inside.cols.items → l.row < length l.self-inside.starts.items;
  before : l.k < length l.self-inside.cols.items → slice_index l.self-inside.starts.items l.row ≤ l.k;
}
