use Rattle.std.proofs.Common.{◌∙◌, length, ap, subst}
use Rattle.sparse_rows.proofs.Loops.{length_zeros}
use Rattle.triangular_solve.specs.PivotRows.{ArePivotRows}
use Rattle.triangular_solve.specs.Reduced.{Workspace}
use Rattle.triangular_solve.specs.Triangle.{TriangleState}
use Rattle.triangular_solve.proofs.PivotReduction.{triangle_reduces}
use Rattle.triangular_solve.proofs.triangle.Triangle.reduce.Goals as goal

pub returns-in_err-reduce-clause-sizes : goal.returns-in_err-reduce-clause-sizes
returns-in_err-reduce-clause-sizes c = record {
  rest_modulus = c.reduce.ensures.rest.0 ∙ c.clear.ensures.modulus ∙ c.requires.sizes.rest_modulus;
  rest_width = c.reduce.ensures.rest.1 ∙ ap length c.clear.ensures.row ∙ length_zeros (length c.args.reduced.now.rest.row) ∙ c.requires.sizes.rest_width;
  coefficients_modulus = c.reduce.ensures.coefficients.0 ∙ c.clear-2.ensures.modulus ∙ c.requires.sizes.coefficients_modulus;
  coefficients_count = c.reduce.ensures.coefficients.1 ∙ ap length c.clear-2.ensures.row ∙ length_zeros (length c.args.reduced.now.coefficients.row) ∙ c.requires.sizes.coefficients_count;
}

pub returns-clause-sizes : goal.returns-clause-sizes
returns-clause-sizes c = record {
  rest_modulus = c.in_ok-reduce.ensures.rest.0 ∙ c.clear.ensures.modulus ∙ c.requires.sizes.rest_modulus;
  rest_width = c.in_ok-reduce.ensures.rest.1 ∙ ap length c.clear.ensures.row ∙ length_zeros (length c.args.reduced.now.rest.row) ∙ c.requires.sizes.rest_width;
  coefficients_modulus = c.in_ok-reduce.ensures.coefficients.0 ∙ c.clear-2.ensures.modulus ∙ c.requires.sizes.coefficients_modulus;
  coefficients_count = c.in_ok-reduce.ensures.coefficients.1 ∙ ap length c.clear-2.ensures.row ∙ length_zeros (length c.args.reduced.now.coefficients.row) ∙ c.requires.sizes.coefficients_count;
}

pub returns-clause-fits : goal.returns-clause-fits
returns-clause-fits c =
    let r = triangle_reduces c.args.cols.now c.args.vals.now (subst (λ (t : TriangleState). ArePivotRows t.rows t.pairs c.self.inside.pivots) c.self.view_is c.self.invariant.1)
    (ap (λ (w : Workspace). w.width) c.requires.work)
    (c.in_ok-reduce.ensures.rest.0 ∙ c.clear.ensures.modulus ∙ c.requires.sizes.rest_modulus) c.in_ok-reduce.ensures.reduced in
    record {
      rest = r.0;
      coefficients_modulus = c.in_ok-reduce.ensures.coefficients.0 ∙ c.clear-2.ensures.modulus ∙ c.requires.sizes.coefficients_modulus;
      coefficients = r.1;
    }

pub returns-clause-reduced : goal.returns-clause-reduced
returns-clause-reduced c = (triangle_reduces c.args.cols.now c.args.vals.now (subst (λ (t : TriangleState). ArePivotRows t.rows t.pairs c.self.inside.pivots) c.self.view_is c.self.invariant.1)
    (ap (λ (w : Workspace). w.width) c.requires.work)
    (c.in_ok-reduce.ensures.rest.0 ∙ c.clear.ensures.modulus ∙ c.requires.sizes.rest_modulus) c.in_ok-reduce.ensures.reduced).2
