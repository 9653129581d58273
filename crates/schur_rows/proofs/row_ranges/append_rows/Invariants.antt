use Rattle.std.proofs.Common.{◌≡◌, ◌≤◌, ◌-◌}
use Rattle.triangular_solve.specs.Reduced.{HasSizesOf}
use Rattle.schur_rows.specs.Parts.{IsPartTo}
use Rattle.schur_rows.proofs.row_ranges.append_rows.Given as goal

abbrev pub invariant-loop-i : goal.invariant-loop-i
invariant-loop-i l = record {
  low : l.next ≤ l.to;
  work : l.work ≡ l.fn.work;
  sizes : HasSizesOf l.pass.reducer.now l.left;
  part : IsPartTo l.pass.reducer.now l.pass.with_coefficients l.from l.next l.part;
}

abbrev pub decreases-loop-i : goal.decreases-loop-i
decreases-loop-i l = l.to - l.next
