use Rattle.triangular_solve.specs.PivotRows.{AreColumnSums}
use Rattle.lead_rows.proofs.Extent.{extent}
use Rattle.triangular_solve.proofs.pivot_rows.PivotRows.count_walk.Given as goal

abbrev pub invariant-loop-place : goal.invariant-loop-place
invariant-loop-place l = AreColumnSums l.self l.sums

abbrev pub decreases-loop-place : goal.decreases-loop-place
decreases-loop-place l = extent l.sums.row
