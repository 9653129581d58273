use Rattle.std.proofs.Common.{◌≤◌}
use Rattle.pivot_walks.specs.Raising.{CanRaiseAbove, work}
use Rattle.pivot_walks.specs.Levels.{ArePartlyRaised, raised}
use Rattle.pivot_walks.proofs.raising.raise_steps.Given as goal

abbrev pub invariant-loop-k : goal.invariant-loop-k
invariant-loop-k l = CanRaiseAbove l.pivots l.levels l.marks l.c l.level
    × (work l.pivots l.levels l.marks ≤ work l.pivots l.fn.levels l.fn.marks)
    × ArePartlyRaised l.pivots.rows.matrix l.pivots.pairs l.c (raised l.levels l.marks.list l.cols l.k)
