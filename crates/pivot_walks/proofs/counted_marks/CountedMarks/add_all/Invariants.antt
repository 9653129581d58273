use Rattle.std.proofs.Common.{◌≡◌, ◌<◌, ◌+◌, ℕ, slice_index}
use Rattle.std.specs.List.{Contains}
use Rattle.pivot_walks.specs.MarkedColumns.{Grows}
use Rattle.pivot_walks.proofs.counted_marks.CountedMarks.add_all.Given as goal

abbrev pub invariant-loop-k : goal.invariant-loop-k
invariant-loop-k g l = (l.self.width ≡ l.fn.self.width) × Grows (Contains l.cols) l.fn.self.list l.self.list
    × (l.steps ≡ l.fn.steps + l.k) × ((t : ℕ) → t < l.k → Contains l.self.list (slice_index l.cols t))
