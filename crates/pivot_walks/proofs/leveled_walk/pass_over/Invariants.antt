use Rattle.std.proofs.Common.{◌<◌, ◌≤◌, ◌⊎◌, ◌-◌, ℕ, slice_index}
use Rattle.std.specs.List.{Contains}
use Rattle.pivot_table.specs.History.{HasCol}
use Rattle.pivot_walks.proofs.leveled_walk.pass_over.Given as goal

abbrev pub invariant-loop-at : goal.invariant-loop-at
invariant-loop-at l = (l.from ≤ l.at) × (l.at ≤ l.end) × ((k : ℕ) → l.from ≤ k → k < l.at → Contains l.marks.list (slice_index l.cols k) ⊎ HasCol l.pivots.pairs (slice_index l.cols k))

abbrev pub decreases-loop-at : goal.decreases-loop-at
decreases-loop-at l = l.end - l.at
