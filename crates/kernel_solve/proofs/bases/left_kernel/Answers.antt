use Rattle.std.proofs.Common.{ℕ, ◌∙◌, ap, arith, subst}
use Rattle.std.proofs.lemmas.Result.{IfOk-weaker}
use Rattle.residue_words.specs.Matrix.{Matrix}
use Rattle.sparse_rows.specs.Rows.{transposed}
use Rattle.echelon_form.specs.Form.{IsFormOf}
use Rattle.kernel_solve.proofs.bases.left_kernel.Goals as goal

pub returns-clause-modulus : goal.returns-clause-modulus
returns-clause-modulus g c = IfOk-weaker c.kernel.result _ _ (λ K same. same ∙ c.in_ok-form.ensures.modulus ∙ c.in_ok-columns.ensures.modulus) c.kernel.ensures.modulus

pub returns-clause-width : goal.returns-clause-width
returns-clause-width g c =
    IfOk-weaker c.kernel.result _ _ (λ K wide. wide ∙ c.in_ok-form.ensures.width ∙ ap (λ m. m.width) c.in_ok-columns.ensures.matrix) c.kernel.ensures.width

pub returns-clause-height : goal.returns-clause-height
returns-clause-height g c =
    IfOk-weaker c.kernel.result _ _ (λ K high. omega (arith, high, c.in_ok-form.ensures.width, ap (λ m. m.width) c.in_ok-columns.ensures.matrix)) c.kernel.ensures.height

pub returns-clause-kernel : goal.returns-clause-kernel
returns-clause-kernel g c =
    let form = c.in_ok-form.form in
    let p : ℕ = c.args.a.now.modulus in
    let T : Matrix = transposed c.args.a.now.matrix in
    let of_transposed : IsFormOf p T form =
    subst (λ t. IsFormOf t T form) c.in_ok-columns.ensures.modulus (subst (λ m. IsFormOf c.in_ok-columns.columns.modulus m form) c.in_ok-columns.ensures.matrix c.in_ok-form.ensures) in
    IfOk-weaker c.kernel.result _ _ (λ K reads prime. reads p T prime of_transposed) c.kernel.ensures.kernel
