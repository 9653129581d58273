-- The kernel basis of the transposed matrix.
use Rattle.std.proofs.Common.{◌∙◌, ap, arith}
use Rattle.residue_words.specs.Matrix.{Matrix}
use Rattle.sparse_rows.specs.Rows.{transposed}
use Rattle.echelon_form.specs.Form.{IsFormOf}
use Rattle.kernel_solve.proofs.Inverting.{form_same}
use Rattle.spasm_lib.proofs.forms.left_kernel.Goals as goal

pub returns-clause-modulus : goal.returns-clause-modulus
returns-clause-modulus g c = c.in_ok-basis.ensures.modulus ∙ c.in_ok-form.ensures.modulus ∙ c.in_ok-columns.ensures.modulus

pub returns-clause-width : goal.returns-clause-width
returns-clause-width g c =
    c.in_ok-basis.ensures.width ∙ c.in_ok-form.ensures.width ∙ ap (λ (M : Matrix). M.width) c.in_ok-columns.ensures.matrix

pub returns-clause-short : goal.returns-clause-short
returns-clause-short g c =
    omega (arith, c.in_ok-basis.ensures.height, c.in_ok-form.ensures.width, ap (λ (M : Matrix). M.width) c.in_ok-columns.ensures.matrix)

pub returns-clause-kernel : goal.returns-clause-kernel
returns-clause-kernel g c = λ prime.
    let A = c.args.a.now in
    let columns = c.in_ok-columns in
    let form : IsFormOf A.modulus (transposed A.matrix) c.in_ok-form.form =
    form_same columns.columns.modulus A.modulus columns.columns.matrix (transposed A.matrix) c.in_ok-form.form columns.ensures.modulus columns.ensures.matrix c.in_ok-form.ensures in
    c.in_ok-basis.ensures.kernel A.modulus (transposed A.matrix) prime form
