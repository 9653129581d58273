use Rattle.std.proofs.Common.{◌<◌, ◌≤◌, ℕ, slice_index}
use Rattle.pivot_table.specs.History.{HasCol}
use Rattle.pivot_walks.proofs.leveled_walk.highest.Given as goal

abbrev pub invariant-loop-k : goal.invariant-loop-k
invariant-loop-k l = (t : ℕ) → t < l.k → (¬ HasCol l.pivots.pairs (slice_index l.cols t)) → slice_index l.levels (slice_index l.cols t) ≤ l.most
