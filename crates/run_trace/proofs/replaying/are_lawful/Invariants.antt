-- The publications before k are lawful, and the walk has their pairs.
use Rattle.std.proofs.Common.{◌≡◌, None, length, slice_index}
use Rattle.optimistic_search.specs.Renamed.{AreInside, renamed}
use Rattle.run_trace.proofs.ReplayedTraces.{IsReplayed}
use Rattle.run_trace.proofs.replaying.are_lawful.Given as goal

abbrev pub invariant-loop-k : goal.invariant-loop-k
invariant-loop-k g l = (l.walk.rows ≡ l.fn.walk.rows) × (l.walk.current ≡ None) × AreInside (length l.columns) l.walk.pairs
    × IsReplayed l.rows.matrix l.publications l.k (renamed (slice_index l.columns) l.walk.pairs)
