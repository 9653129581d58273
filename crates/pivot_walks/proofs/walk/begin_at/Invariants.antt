use Rattle.std.proofs.Common.{◌≡◌, ◌<◌, ◌+◌, ℕ, slice_index}
use Rattle.std.specs.List.{Contains}
use Rattle.pivot_table.specs.History.{HasCol}
use Rattle.pivot_walks.specs.Reached.{AreReached}
use Rattle.pivot_walks.proofs.walk.begin_at.Given as goal

abbrev pub invariant-loop-k : goal.invariant-loop-k
invariant-loop-k g l = (l.marks.width ≡ l.fn.marks.width) × AreReached l.pivots.rows.matrix l.pivots.pairs l.row l.marks.list
    × (l.steps ≡ l.fn.steps + l.k) × ((t : ℕ) → t < l.k → HasCol l.pivots.pairs (slice_index l.cols t) → Contains l.marks.list (slice_index l.cols t))
