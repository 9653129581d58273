use Rattle.std.proofs.Common.{◌≡◌, ◌∙◌, ap, arith, subst, sym}
use Rattle.std.proofs.lemmas.Result.{IfOk-weaker}
use Rattle.residue_words.specs.Matrix.{Matrix}
use Rattle.sparse_rows.specs.Rows.{AreRising, narrowed}
use Rattle.echelon_form.specs.Form.{widened_form}
use Rattle.echelon_form.proofs.Widening.{narrow_form}
use Rattle.echelon_form.proofs.echelon.Echelon.made_by.Goals as goal

pub returns-in_ok-settled : goal.returns-in_ok-settled
returns-in_ok-settled g c =
    let A : Matrix = c.args.rows.now.matrix in
    let is : c.in_ok-narrow.narrow.matrix ≡ narrowed A c.in_ok-columns.columns.items = c.in_ok-narrow.ensures.matrix ∙ ap (narrowed A) c.deref.ensures.value in
    IfOk-weaker c.widened.result _ _ (λ e made.
    narrow_form (omega (arith, c.is_sound.ensures.two_or_more)) c.is_sound.ensures.entries c.in_ok-columns.ensures.enough is c.in_ok-narrow.ensures.modulus c.width.ensures.value
    c.in_ok-settled.ensures (made ∙ ap (widened_form c.in_ok-settled.field-0 c.width.result) c.deref-then-is_wide.ensures.value)) c.widened.ensures

pub widened-requires-clause-rising : goal.widened-requires-clause-rising
widened-requires-clause-rising g c = subst AreRising (sym c.deref-then-is_wide.ensures.value) c.in_ok-columns.ensures.enough.rising
