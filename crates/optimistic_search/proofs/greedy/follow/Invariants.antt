use Rattle.std.proofs.Common.{◌≡◌, take}
use Rattle.pivot_walks.specs.Budget.{StaysUnbounded}
use Rattle.optimistic_search.proofs.greedy.follow.Given as goal

abbrev pub invariant-loop-k : goal.invariant-loop-k
invariant-loop-k l = (l.walk.rows ≡ l.fn.walk.rows) × (l.walk.pairs ≡ take l.k l.pairs)
    × StaysUnbounded l.fn.walk.left l.walk.left
