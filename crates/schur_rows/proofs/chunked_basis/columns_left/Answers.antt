use Rattle.std.proofs.Common.{◌≡◌, ◌-◌, ap, arith, length, subst}
use Rattle.sparse_rows.specs.Rows.{AreOccupied, ResidueMatrix}
use Rattle.triangular_solve.specs.Triangle.{TriangleState}
use Rattle.schur_rows.specs.RestBasis.{HasColumnsLeft}
use Rattle.schur_rows.proofs.FullBasis.{columns_left}
use Rattle.schur_rows.proofs.chunked_basis.columns_left.Goals as goal

pub returns : goal.returns
returns c =
    let t : TriangleState = c.args.reducer.now in
    let columns = c.in_ok-occupied.field-0.items in
    let number : length columns - length t.pairs ≡ c.saturating_sub.result = omega (arith, c.saturating_sub.ensures, c.len-occupied.ensures, ap length c.pairs-pivots.ensures.pairs) in
    subst (HasColumnsLeft t.rows.matrix t.pairs) number
    (columns_left c.pairs-pivots.ensures.triangular (subst (λ (R : ResidueMatrix). AreOccupied R.matrix columns) c.rows.ensures c.in_ok-occupied.ensures))
