use Rattle.std.proofs.Common.{◌-◌, ◌≤◌}
use Rattle.grow_form.specs.Growing.{SpansRowsOf}
use Rattle.grow_form.proofs.Spanning.{first_rows}
use Rattle.grow_form.proofs.grow.Grow.of.Given as goal

abbrev pub invariant-loop-i : goal.invariant-loop-i
invariant-loop-i l = record {
  inside : l.from ≤ l.fn.rows.matrix.height;
  spans : SpansRowsOf (first_rows l.from l.fn.rows) l.grow;
}

abbrev pub decreases-loop-i : goal.decreases-loop-i
decreases-loop-i l = l.fn.rows.matrix.height - l.from
