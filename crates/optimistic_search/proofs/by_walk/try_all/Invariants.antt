use Rattle.std.proofs.Common.{◌≡◌}
use Rattle.pivot_table.specs.Greedy.{IsGreedyBelow}
use Rattle.optimistic_search.specs.CostOfRows.{TakesCostOfRows}
use Rattle.optimistic_search.proofs.by_walk.try_all.Given as goal

abbrev pub invariant-loop-row : goal.invariant-loop-row
invariant-loop-row g l = (l.search.rows ≡ l.fn.search.rows)
    × IsGreedyBelow l.fn.search.rows.matrix l.fn.search.pairs l.row l.search.pairs
    × TakesCostOfRows l.fn.search.rows.matrix l.search.pairs l.row l.fn.steps l.steps
