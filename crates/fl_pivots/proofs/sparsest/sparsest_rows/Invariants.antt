use Rattle.std.proofs.Common.{◌≤◌, ◌-◌}
use Rattle.fl_pivots.specs.Sparsest.{AreSparsest}
use Rattle.fl_pivots.proofs.sparsest.sparsest_rows.Given as goal

abbrev pub invariant-loop-i : goal.invariant-loop-i
invariant-loop-i l = record {
  inside : l.from ≤ l.rows.matrix.height;
  table : AreSparsest l.rows.matrix l.from l.table.items;
}

abbrev pub decreases-loop-i : goal.decreases-loop-i
decreases-loop-i l = l.rows.matrix.height - l.from
