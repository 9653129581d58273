use Rattle.std.proofs.Common.{ℕ, ◌∙◌, List, ap, length, map, subst}
use Rattle.residue_words.specs.Residues.{IsPrime}
use Rattle.row_space.specs.Echelon.{SameSpan}
use Rattle.echelon_form.specs.Settling.{AreSettled}
use Rattle.echelon_form.proofs.Settled.{echelon_of_form, form_of_settled}
use Rattle.echelon_form.proofs.echelon.Echelon.settled.Goals as goal

pub invariant_of-result : goal.invariant_of-result
invariant_of-result g c =
    let order : List (ℕ × ℕ) = c.in_ok-order.order.items in
    let settled : AreSettled c.in_ok-kept.kept order (length order) c.in_ok-merged.field-0.matrix =
    subst (λ o. AreSettled c.in_ok-kept.kept o (length o) c.in_ok-merged.field-0.matrix) c.deref-2.ensures.value c.in_ok-merged.ensures.settled in
    let span : IsPrime c.args.rows.now.modulus → SameSpan c.args.rows.now.modulus c.args.rows.now.matrix c.in_ok-kept.kept.matrix =
    subst (λ q. IsPrime q → SameSpan q c.args.rows.now.matrix c.in_ok-kept.kept.matrix) c.in_ok-kept.ensures.modulus c.in_ok-kept.ensures.span in
    echelon_of_form {p = c.args.rows.now.modulus} {A = c.args.rows.now.matrix} _
    (form_of_settled c.order_of.ensures.sound c.in_ok-order.ensures.order settled (c.in_ok-leads_of.ensures ∙ ap (map (λ (x : ℕ × ℕ). x.0)) c.deref-4.ensures.value)
    (c.in_ok-merged.ensures.modulus ∙ c.in_ok-kept.ensures.modulus) c.in_ok-kept.ensures.modulus c.in_ok-kept.ensures.width span)

pub returns : goal.returns
returns g c =
    let order : List (ℕ × ℕ) = c.in_ok-order.order.items in
    let settled : AreSettled c.in_ok-kept.kept order (length order) c.in_ok-merged.field-0.matrix =
    subst (λ o. AreSettled c.in_ok-kept.kept o (length o) c.in_ok-merged.field-0.matrix) c.deref-2.ensures.value c.in_ok-merged.ensures.settled in
    let span : IsPrime c.args.rows.now.modulus → SameSpan c.args.rows.now.modulus c.args.rows.now.matrix c.in_ok-kept.kept.matrix =
    subst (λ q. IsPrime q → SameSpan q c.args.rows.now.matrix c.in_ok-kept.kept.matrix) c.in_ok-kept.ensures.modulus c.in_ok-kept.ensures.span in
    form_of_settled c.order_of.ensures.sound c.in_ok-order.ensures.order settled (c.in_ok-leads_of.ensures ∙ ap (map (λ (x : ℕ × ℕ). x.0)) c.deref-4.ensures.value)
    (c.in_ok-merged.ensures.modulus ∙ c.in_ok-kept.ensures.modulus) c.in_ok-kept.ensures.modulus c.in_ok-kept.ensures.width span
