use Rattle.std.proofs.Common.{◌≡◌}
use Rattle.pivot_walks.specs.Budget.{StaysUnbounded}
use Rattle.pivot_walks.specs.Raising.{work}
use Rattle.pivot_walks.specs.Levels.{AreRaised}
use Rattle.pivot_walks.proofs.raising.raise_all.Given as goal

abbrev pub invariant-loop-c : goal.invariant-loop-c
invariant-loop-c l = (l.marks.width ≡ l.fn.marks.width) × AreRaised l.pivots.rows.matrix l.pivots.pairs l.levels l.marks.list
    × StaysUnbounded l.fn.budget l.budget

abbrev pub decreases-loop-c : goal.decreases-loop-c
decreases-loop-c l = work l.pivots l.levels l.marks
