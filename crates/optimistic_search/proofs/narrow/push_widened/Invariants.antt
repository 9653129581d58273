use Rattle.std.proofs.Common.{◌≡◌, ◌≤◌, ◌+◌, min, slice_index, take}
use Rattle.optimistic_search.specs.Renamed.{renamed}
use Rattle.optimistic_search.proofs.narrow.push_widened.Given as goal

abbrev pub invariant-loop-k : goal.invariant-loop-k
invariant-loop-k l = (l.book.rows ≡ l.fn.book.rows) × (l.book.pairs ≡ renamed (slice_index l.fn.columns) (take l.k l.fn.narrow.pairs))
    × (min l.fn.narrow.rows.matrix.height l.fn.narrow.rows.matrix.width ≤ l.k + l.book.spare)
