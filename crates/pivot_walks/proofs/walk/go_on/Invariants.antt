use Rattle.std.proofs.Common.{◌≡◌, ◌-◌, take}
use Rattle.pivot_walks.specs.Reached.{IsWalking, progress}
use Rattle.pivot_walks.specs.Spent.{TakesForColumns}
use Rattle.pivot_walks.proofs.walk.go_on.Given as goal

abbrev pub invariant-loop-passed : goal.invariant-loop-passed
invariant-loop-passed g l = (l.marks.width ≡ l.fn.marks.width) × IsWalking l.pivots.rows.matrix l.pivots.pairs l.row (progress l.marks.list l.taken l.passed)
    × TakesForColumns l.pivots (take l.fn.taken l.fn.marks.list) (take l.taken l.marks.list) l.fn.steps l.steps

abbrev pub decreases-loop-passed : goal.decreases-loop-passed
decreases-loop-passed g l = l.fn.marks.width - l.taken
