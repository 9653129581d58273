use Rattle.std.proofs.Common.{◌-◌}
use Rattle.fl_pivots.specs.Beginnings.{AreBeginnings}
use Rattle.fl_pivots.proofs.beginning.beginnings.Given as goal

abbrev pub invariant-loop-i : goal.invariant-loop-i
invariant-loop-i l = AreBeginnings l.rows.matrix l.from l.list.items

abbrev pub decreases-loop-i : goal.decreases-loop-i
decreases-loop-i l = l.rows.matrix.height - l.from
