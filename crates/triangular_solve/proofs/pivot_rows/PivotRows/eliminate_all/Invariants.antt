use Rattle.std.proofs.Common.{ℕ, List}
use Rattle.triangular_solve.specs.PivotRows.{AreColumnSums, IsEliminating}
use Rattle.lead_rows.proofs.Extent.{extent}
use Rattle.triangular_solve.proofs.pivot_rows.PivotRows.eliminate_all.Given as goal

abbrev pub invariant-loop : goal.invariant-loop
invariant-loop l = AreColumnSums l.self l.sums × ((coefficients : List ℕ) × IsEliminating l.self l.fn.sums.row l.sums.row coefficients)

abbrev pub decreases-loop : goal.decreases-loop
decreases-loop l = extent l.sums.row
