use Rattle.std.proofs.Common.{ℕ, ◌≡◌, ◌<◌, List, subst, sym, arith, ◌∙◌}
use Rattle.std.proofs.lemmas.Bool.{false≢true}
use Rattle.std.proofs.lemmas.Result.{IfOk-weaker}
use Rattle.std.proofs.lemmas.List.Elements.{All-from_get_or}
use Rattle.residue_words.specs.Matrix.{Matrix, IsMatrix}
use Rattle.cert_checker.specs.declared.outer_ones.Side.TheVariants.{Left}
use Rattle.cert_checker.specs.OuterOnes.{AreAlone, AreOuterOnes}
use Rattle.cert_checker.proofs.Forms.{ones_below, rref_alone, rref_made, rref_product}
use Rattle.cert_checker.proofs.Outer.{alone_single, single_alone}
use Rattle.cert_checker.proofs.showing.shows_rref.Goals as goal

pub returns-then-not-single : goal.returns-then-not-single
returns-then-not-single c =
    let U : Matrix = c.args.u.now.matrix in
    let E : Matrix = c.args.e.now.matrix in
    let p : ℕ = c.args.u.now.modulus in
    let m : IsMatrix p E = subst (λ q. IsMatrix q E) c.requires c.is_sound-2.ensures.entries in
    let width : E.width ≡ U.width = omega (arith, c.if-width.false, c.width.ensures.value, c.width-2.ensures.value) in
    let height : E.height ≡ U.height = omega (arith, c.if-height.false, c.height.ensures.value, c.height-2.ensures.value) in
    let leads : List ℕ = c.in-Some.leads.items in
    let ones : AreOuterOnes Left E leads = rw c.in-Some.is at c.in_ok-leads.ensures.some in (
      λ e. absurd (false≢true e),
      λ s. absurd (false≢true (sym c.if-not-single.true ∙ c.in_ok-single.ensures.1 (rw c.deref.ensures.value
          (alone_single m ones (rref_alone p U E leads c.is_sound.ensures.entries m ones height width s))))),
    )

pub columns_of-requires-clause-inside : goal.columns_of-requires-clause-inside
columns_of-requires-clause-inside c =
    let E : Matrix = c.args.e.now.matrix in
    let leads : List ℕ = c.in-Some.leads.items in
    let ones : AreOuterOnes Left E leads = rw c.in-Some.is at c.in_ok-leads.ensures.some in
    rw c.deref-2.ensures.value
    (All-from_get_or (λ j. j < c.args.u.now.matrix.width) leads 0 (λ k l. omega (arith, ones_below ones k l, c.if-width.false, c.width.ensures.value, c.width-2.ensures.value)))

pub returns : goal.returns
returns c =
    let U : Matrix = c.args.u.now.matrix in
    let E : Matrix = c.args.e.now.matrix in
    let p : ℕ = c.args.u.now.modulus in
    let m : IsMatrix p E = subst (λ q. IsMatrix q E) c.requires c.is_sound-2.ensures.entries in
    let width : E.width ≡ U.width = omega (arith, c.if-width.false, c.width.ensures.value, c.width-2.ensures.value) in
    let height : E.height ≡ U.height = omega (arith, c.if-height.false, c.height.ensures.value, c.height-2.ensures.value) in
    let leads : List ℕ = c.in-Some.leads.items in
    let ones : AreOuterOnes Left E leads = rw c.in-Some.is at c.in_ok-leads.ensures.some in
    let alone : AreAlone E leads = single_alone m ones (rw c.deref.ensures.value at (c.in_ok-single.ensures.0 c.if-not-single.false)) in
    IfOk-weaker c.is_product.result _ _ (λ yes told.
    let product = rw (c.requires, c.in_ok-at_leads.ensures.matrix, c.deref-2.ensures.value) at told in (
      λ e. rref_made p U E leads c.is_sound.ensures.entries m ones height width alone (product.0 e),
      λ s. product.1 (rref_product p U E leads c.is_sound.ensures.entries m ones height width s),
    )) c.is_product.ensures
