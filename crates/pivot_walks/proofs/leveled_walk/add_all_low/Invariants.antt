use Rattle.std.proofs.Common.{◌≡◌, ◌<◌, ◌≤◌, ℕ, slice_index}
use Rattle.std.specs.List.{Contains}
use Rattle.pivot_walks.specs.MarkedColumns.{Grows}
use Rattle.pivot_walks.proofs.leveled_walk.add_all_low.Given as goal

abbrev pub invariant-loop-k : goal.invariant-loop-k
invariant-loop-k l = (l.marks.width ≡ l.fn.marks.width) × Grows (Contains l.cols) l.fn.marks.list l.marks.list
    × ((t : ℕ) → t < l.k → slice_index l.levels (slice_index l.cols t) ≤ l.bound → Contains l.marks.list (slice_index l.cols t))
