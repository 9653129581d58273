use Rattle.std.proofs.Common.{ap, arith}
use Rattle.triangular_solve.specs.PivotRows.{PlacedRows}
use Rattle.triangular_solve.proofs.Eliminating.{eliminated_falls}
use Rattle.triangular_solve.proofs.pivot_rows.PivotRows.count_walk.Goals as goal

pub cols-requires : goal.cols-requires
cols-requires c = omega (arith, c.in-Some.ensures.some.inside, ap (λ (Q : PlacedRows). Q.rows.matrix.height) c.self.view_is)

pub loop-place-smaller : goal.loop-place-smaller
loop-place-smaller c = eliminated_falls c.loop-place.invariant.vector c.in-Some.ensures.sums c.in-Some.ensures.some
