use Rattle.std.proofs.Common.{◌≡◌, ◌≤◌, ◌+◌, length, slice_index, take}
use Rattle.optimistic_search.specs.Renamed.{AreInside, renamed}
use Rattle.optimistic_search.proofs.narrow.push_narrowed.Given as goal

abbrev pub invariant-loop-k : goal.invariant-loop-k
invariant-loop-k l = (l.narrow.rows ≡ l.fn.narrow.rows) × (renamed (slice_index l.fn.columns) l.narrow.pairs ≡ take l.k l.fn.book.pairs)
    × (length l.fn.book.pairs ≤ l.k + l.narrow.spare) × AreInside l.fn.narrow.rows.matrix.width l.narrow.pairs
