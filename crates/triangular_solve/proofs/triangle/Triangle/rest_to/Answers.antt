use Rattle.std.proofs.Common.{◌∙◌, length, ap, subst}
use Rattle.sparse_rows.proofs.Loops.{length_zeros}
use Rattle.triangular_solve.specs.PivotRows.{ArePivotRows}
use Rattle.triangular_solve.specs.Reduced.{Workspace}
use Rattle.triangular_solve.specs.Triangle.{TriangleState}
use Rattle.triangular_solve.proofs.PivotReduction.{triangle_reduces}
use Rattle.triangular_solve.proofs.triangle.Triangle.rest_to.Goals as goal

pub returns-in_err-rest-clause-alike : goal.returns-in_err-rest-clause-alike
returns-in_err-rest-clause-alike c = (c.rest.ensures.rest.0 ∙ c.clear.ensures.modulus, c.rest.ensures.rest.1 ∙ ap length c.clear.ensures.row ∙ length_zeros (length c.args.rest.now.row))

pub returns-clause-alike : goal.returns-clause-alike
returns-clause-alike c = (c.in_ok-rest.ensures.rest.0 ∙ c.clear.ensures.modulus, c.in_ok-rest.ensures.rest.1 ∙ ap length c.clear.ensures.row ∙ length_zeros (length c.args.rest.now.row))

pub returns-clause-fits : goal.returns-clause-fits
returns-clause-fits c = (triangle_reduces c.args.cols.now c.args.vals.now (subst (λ (t : TriangleState). ArePivotRows t.rows t.pairs c.self.inside.pivots) c.self.view_is c.self.invariant.1)
    (ap (λ (w : Workspace). w.width) c.requires.work)
    (c.in_ok-rest.ensures.rest.0 ∙ c.clear.ensures.modulus ∙ c.requires.rest_modulus) c.in_ok-rest.ensures.reduced.1).0

pub returns-clause-rest : goal.returns-clause-rest
returns-clause-rest c = λ prime.
    let r = triangle_reduces c.args.cols.now c.args.vals.now (subst (λ (t : TriangleState). ArePivotRows t.rows t.pairs c.self.inside.pivots) c.self.view_is c.self.invariant.1)
    (ap (λ (w : Workspace). w.width) c.requires.work)
    (c.in_ok-rest.ensures.rest.0 ∙ c.clear.ensures.modulus ∙ c.requires.rest_modulus) c.in_ok-rest.ensures.reduced.1 in
    (r.0.vector, (c.in_ok-rest.ensures.reduced.0, r.2 prime))
