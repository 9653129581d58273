use Rattle.std.proofs.Common.{◌≡◌, None, take}
use Rattle.optimistic_search.proofs.by_walk.follow.Given as goal

abbrev pub invariant-loop-k : goal.invariant-loop-k
invariant-loop-k l = (l.walk.rows ≡ l.fn.walk.rows) × (l.walk.pairs ≡ take l.k l.pairs) × (l.walk.current ≡ None)
