use Rattle.std.proofs.Common.{◌≡◌, ◌<◌, ◌≤◌, ◌-◌}
use Rattle.pivot_table.specs.Greedy.{IsGreedyBelow}
use Rattle.pivot_walks.specs.Budget.{StaysUnbounded}
use Rattle.optimistic_search.proofs.greedy.try_all.Given as goal

abbrev pub invariant-loop-row : goal.invariant-loop-row
invariant-loop-row l = (l.search.rows ≡ l.fn.search.rows)
    × (l.from ≤ l.fn.search.rows.matrix.height)
    × (0 < l.search.left → IsGreedyBelow l.fn.search.rows.matrix l.fn.search.pairs l.from l.search.pairs)
    × StaysUnbounded l.fn.search.left l.search.left

abbrev pub decreases-loop-row : goal.decreases-loop-row
decreases-loop-row l = l.fn.search.rows.matrix.height - l.from
