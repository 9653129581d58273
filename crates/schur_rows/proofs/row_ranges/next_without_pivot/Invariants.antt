use Rattle.std.proofs.Common.{◌≤◌, ◌-◌}
use Rattle.schur_rows.proofs.row_ranges.next_without_pivot.Given as goal

abbrev pub invariant-loop-i : goal.invariant-loop-i
invariant-loop-i l = l.from ≤ l.next

abbrev pub decreases-loop-i : goal.decreases-loop-i
decreases-loop-i l = l.rows.matrix.height - l.next
