use Rattle.std.proofs.Common.{◌≡◌, ◌-◌}
use Rattle.pivot_walks.specs.Budget.{StaysUnbounded}
use Rattle.pivot_walks.specs.Levels.{IsBoundedWalk, limits}
use Rattle.pivot_walks.specs.Reached.{progress}
use Rattle.pivot_walks.proofs.leveled_walk.go_on.Given as goal

abbrev pub invariant-loop-passed : goal.invariant-loop-passed
invariant-loop-passed l = (l.marks.width ≡ l.fn.marks.width) × IsBoundedWalk l.pivots.rows.matrix l.pivots.pairs l.row
    (limits l.levels l.stop.level l.stop.place) (progress l.marks.list l.taken l.passed)
    × StaysUnbounded l.fn.budget l.budget

abbrev pub decreases-loop-passed : goal.decreases-loop-passed
decreases-loop-passed l = l.fn.marks.width - l.taken
