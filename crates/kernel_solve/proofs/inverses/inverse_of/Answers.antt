use Rattle.std.proofs.Common.{ℕ, ◌≡◌, ◌∙◌, ap, subst, sym}
use Rattle.std.proofs.lemmas.Result.{IfOk-weaker}
use Rattle.residue_words.specs.Matrix.{Matrix}
use Rattle.sparse_rows.specs.Rows.{beside, identity}
use Rattle.echelon_form.specs.Form.{IsFormOf}
use Rattle.kernel_solve.specs.Inverted.{IsDoubled}
use Rattle.kernel_solve.proofs.Inverting.{few_entries, form_same}
use Rattle.kernel_solve.proofs.inverses.inverse_of.Goals as goal

pub returns-clause-tells : goal.returns-clause-tells
returns-clause-tells g c =
    let p : ℕ = c.args.a.now.modulus in
    let A : Matrix = c.args.a.now.matrix in
    let n : ℕ = c.width.result in
    let size : n ≡ A.width = c.width.ensures.value in
    let both = subst (IsDoubled c.args.a.now) c.in-Some.is c.in_ok-both.ensures in
    let form : IsFormOf p (beside A (identity n)) c.in_ok-form.form =
    form_same c.in-Some.both.modulus p c.in-Some.both.matrix (beside A (identity n)) c.in_ok-form.form both.0 (both.1 ∙ ap (λ n. beside A (identity n)) (sym size)) c.in_ok-form.ensures in
    IfOk-weaker c.inverse_in.result _ _ (λ found tells prime. tells p A prime c.is_sound.ensures.entries (c.requires.square ∙ sym size) (sym size) form)
    c.inverse_in.ensures.tells

pub returns-in_default-clause-tells : goal.returns-in_default-clause-tells
returns-in_default-clause-tells g c = λ prime.
    few_entries c.args.a.now.modulus c.args.a.now.matrix prime.two_or_more c.is_sound.ensures.entries c.requires.square
    (subst (IsDoubled c.args.a.now) c.in_default.is c.in_ok-both.ensures)
