use Rattle.std.proofs.Common.{◌<◌, ◌≤◌, ◌-◌, ℕ, length, slice_index}
use Rattle.std.specs.List.{Contains}
use Rattle.pivot_walks.proofs.marked_columns.MarkedColumns.pass_over.Given as goal

abbrev pub invariant-loop-at : goal.invariant-loop-at
invariant-loop-at l = (l.from ≤ l.at) × (l.at ≤ length l.cols) × ((t : ℕ) → l.from ≤ t → t < l.at → Contains l.self.list (slice_index l.cols t))

abbrev pub decreases-loop-at : goal.decreases-loop-at
decreases-loop-at l = length l.cols - l.at
