use Rattle.std.proofs.Common.{◌<◌, take}
use Rattle.column_lists.specs.declared.sizes.TheConstants.{LARGEST_SIZE}
use Rattle.matrix_cells.specs.Cells.{row_of}
use Rattle.matrix_cells.proofs.Summing.{IsSummed}
use Rattle.matrix_cells.proofs.ordered_cells.OrderedCells.sums_of.Given as goal

abbrev pub invariant-loop-k : goal.invariant-loop-k
invariant-loop-k l = record {
  summed : IsSummed l.modulus (take l.k l.fn.cells) l.sums l.sum;
  row : row_of l.sum < LARGEST_SIZE;
}
