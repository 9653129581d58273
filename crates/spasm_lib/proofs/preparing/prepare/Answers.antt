-- The factors by rounds, with the kernel bases by the forms of the right factor and of the transposed matrix.
use Rattle.std.proofs.Common.{ℕ, sym, ap, subst, ◌∙◌, arith}
use Rattle.residue_words.specs.Matrix.{Matrix}
use Rattle.sparse_rows.specs.Rows.{transposed}
use Rattle.echelon_form.specs.Form.{IsFormOf}
use Rattle.kernel_solve.specs.Prepared.{IsPreparedFor}
use Rattle.kernel_solve.proofs.Inverting.{form_same}
use Rattle.pluq_factor.proofs.Turning.{form_based}
use Rattle.spasm_lib.proofs.Claims.{factors_show_rows}
use Rattle.spasm_lib.proofs.preparing.prepare.Goals as goal

pub by_factors-requires : goal.by_factors-requires
by_factors-requires g c =
    let sizes = c.in_ok-factors.ensures.factors.sizes in
    let factors = c.in_ok-factors.ensures.factors in
    record {
      right_modulus = factors.right_modulus ∙ sym factors.left_modulus;
      null_modulus = c.in_ok-null.ensures.modulus ∙ c.in_ok-rows_form.ensures.modulus ∙ factors.right_modulus ∙ sym factors.left_modulus;
      relations_modulus = c.in_ok-relations.ensures.modulus ∙ c.in_ok-columns_form.ensures.modulus ∙ c.in_ok-columns.ensures.modulus ∙ sym factors.left_modulus;
      left_width = sizes.left_width;
      right_height = sizes.right_height;
      null_width = c.in_ok-null.ensures.width ∙ c.in_ok-rows_form.ensures.width;
      relations_width = c.in_ok-relations.ensures.width ∙ c.in_ok-columns_form.ensures.width ∙ ap (λ (M : Matrix). M.width) c.in_ok-columns.ensures.matrix ∙ sym sizes.left_height;
      rows_below = λ k l. omega (arith, sizes.rows_below k l, sizes.left_height);
      columns_below = λ k l. omega (arith, sizes.columns_below k l, sizes.right_width);
    }

pub returns : goal.returns
returns g c =
    let p : ℕ = c.args.a.now.modulus in
    let A : Matrix = c.args.a.now.matrix in
    let sizes = c.in_ok-factors.ensures.factors.sizes in
    let factors = c.in_ok-factors.ensures.factors in
    let form : IsFormOf p A c.in_ok-rows_form.rows_form = form_based (factors_show_rows c.is_sound.ensures.entries factors) c.in_ok-rows_form.ensures in
    let columns : IsFormOf p (transposed A) c.in_ok-columns_form.columns_form =
    form_same c.in_ok-columns.columns.modulus p c.in_ok-columns.columns.matrix (transposed A) c.in_ok-columns_form.columns_form c.in_ok-columns.ensures.modulus c.in_ok-columns.ensures.matrix c.in_ok-columns_form.ensures in
    subst (IsPreparedFor p A) (sym c.in_ok-prepared.ensures) (record {
      modulus = factors.left_modulus;
      height = sizes.left_height;
      width = sizes.right_width;
      factors = factors.factors;
      null = λ prime. c.in_ok-null.ensures.kernel p A prime form;
      relations = λ prime. c.in_ok-relations.ensures.kernel p (transposed A) prime columns;
    })
