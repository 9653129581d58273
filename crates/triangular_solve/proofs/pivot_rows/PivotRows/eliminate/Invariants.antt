use Rattle.triangular_solve.specs.PivotRows.{AreColumnSums, IsEliminating}
use Rattle.lead_rows.specs.Accumulator.{IsAlike}
use Rattle.lead_rows.proofs.Extent.{extent}
use Rattle.triangular_solve.proofs.pivot_rows.PivotRows.eliminate.Given as goal

abbrev pub invariant-loop-place : goal.invariant-loop-place
invariant-loop-place l = record {
  sums : AreColumnSums l.self l.sums;
  coefficients : IsAlike l.fn.coefficients l.coefficients;
  eliminating : IsEliminating l.self l.fn.sums.row l.sums.row l.coefficients.row;
}

abbrev pub decreases-loop-place : goal.decreases-loop-place
decreases-loop-place l = extent l.sums.row
