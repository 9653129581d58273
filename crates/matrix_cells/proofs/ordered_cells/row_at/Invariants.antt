use Rattle.std.proofs.Common.{length, ◌-◌, ◌<◌, ◌≤◌, slice_index}
use Rattle.matrix_cells.proofs.ordered_cells.row_at.Given as goal

abbrev pub invariant-loop-row : goal.invariant-loop-row
invariant-loop-row l = record { begun : l.row < length l.starts; before : slice_index l.starts l.row ≤ l.k }

abbrev pub decreases-loop-row : goal.decreases-loop-row
decreases-loop-row l = length l.starts - l.row
