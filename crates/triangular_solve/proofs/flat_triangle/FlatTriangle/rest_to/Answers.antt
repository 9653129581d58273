use Rattle.std.proofs.Common.{◌∙◌, length, ap, subst}
use Rattle.sparse_rows.proofs.Loops.{length_zeros}
use Rattle.triangular_solve.specs.PivotRows.{ArePivotRows}
use Rattle.triangular_solve.specs.Reduced.{Workspace}
use Rattle.triangular_solve.specs.Triangle.{TriangleState}
use Rattle.triangular_solve.proofs.PivotReduction.{triangle_leaves}
use Rattle.triangular_solve.proofs.flat_triangle.FlatTriangle.rest_to.Goals as goal

pub returns-in_err-flat_rest-clause-alike : goal.returns-in_err-flat_rest-clause-alike
returns-in_err-flat_rest-clause-alike c = (c.flat_rest.ensures.rest.0 ∙ c.clear.ensures.modulus, c.flat_rest.ensures.rest.1 ∙ ap length c.clear.ensures.row ∙ length_zeros (length c.args.rest.now.row))

pub returns-clause-alike : goal.returns-clause-alike
returns-clause-alike c = (c.in_ok-flat_rest.ensures.rest.0 ∙ c.clear.ensures.modulus, c.in_ok-flat_rest.ensures.rest.1 ∙ ap length c.clear.ensures.row ∙ length_zeros (length c.args.rest.now.row))

pub returns-clause-fits : goal.returns-clause-fits
returns-clause-fits c = (triangle_leaves c.args.cols.now c.args.vals.now (subst (λ (t : TriangleState). ArePivotRows t.rows t.pairs c.self.inside.pivots.now) c.self.view_is c.self.invariant.0)
    (ap (λ (w : Workspace). w.width) c.requires.work) (c.in_ok-flat_rest.ensures.rest.0 ∙ c.clear.ensures.modulus ∙ c.requires.rest_modulus) c.in_ok-flat_rest.ensures.left).0

pub returns-clause-rest : goal.returns-clause-rest
returns-clause-rest c = (triangle_leaves c.args.cols.now c.args.vals.now (subst (λ (t : TriangleState). ArePivotRows t.rows t.pairs c.self.inside.pivots.now) c.self.view_is c.self.invariant.0)
    (ap (λ (w : Workspace). w.width) c.requires.work) (c.in_ok-flat_rest.ensures.rest.0 ∙ c.clear.ensures.modulus ∙ c.requires.rest_modulus) c.in_ok-flat_rest.ensures.left).1
