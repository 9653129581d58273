use Rattle.std.proofs.Common.{ℕ, ◌≡◌, ◌+◌, List, subst, sym, arith, ◌∙◌}
use Rattle.std.proofs.lemmas.Bool.{false≢true}
use Rattle.std.proofs.lemmas.Result.{IfOk-weaker}
use Rattle.residue_words.specs.Matrix.{Matrix, IsMatrix}
use Rattle.cert_checker.specs.declared.outer_ones.Side.TheVariants.{Right}
use Rattle.cert_checker.specs.OuterOnes.{AreAlone, AreOuterOnes}
use Rattle.cert_checker.proofs.Forms.{kernel_alone, kernel_made, kernel_product}
use Rattle.cert_checker.proofs.Outer.{alone_single, single_alone}
use Rattle.cert_checker.proofs.showing.shows_kernel.Goals as goal

pub returns-then-not-are_single : goal.returns-then-not-are_single
returns-then-not-are_single c =
    let A : Matrix = c.args.a.now.matrix in
    let K : Matrix = c.args.k.now.matrix in
    let p : ℕ = c.args.a.now.modulus in
    let m : IsMatrix p K = subst (λ q. IsMatrix q K) c.requires c.is_sound-2.ensures.entries in
    let width : K.width ≡ A.width = omega (arith, c.if-width.false, c.width-2.ensures.value, c.width-3.ensures.value) in
    let ends : List ℕ = c.in-Some.ends.items in
    let ones : AreOuterOnes Right K ends = rw c.in-Some.is at c.in_ok-ends.ensures.some in (
      λ e. absurd (false≢true e),
      λ s. absurd (false≢true (sym c.if-not-are_single.true ∙ c.are_single.ensures.1 (rw (c.in_ok-columns.ensures.matrix, c.deref.ensures.value)
          (alone_single m ones (kernel_alone p A K c.args.rank ends m ones width s))))),
    )

pub returns : goal.returns
returns c =
    let A : Matrix = c.args.a.now.matrix in
    let K : Matrix = c.args.k.now.matrix in
    let p : ℕ = c.args.a.now.modulus in
    let m : IsMatrix p K = subst (λ q. IsMatrix q K) c.requires c.is_sound-2.ensures.entries in
    let width : K.width ≡ A.width = omega (arith, c.if-width.false, c.width-2.ensures.value, c.width-3.ensures.value) in
    let high : K.height + c.args.rank ≡ A.width = omega (arith, c.if-from.false, c.from.ensures, c.from-2.ensures, c.from-3.ensures, c.height.ensures.value, c.width.ensures.value) in
    let ends : List ℕ = c.in-Some.ends.items in
    let ones : AreOuterOnes Right K ends = rw c.in-Some.is at c.in_ok-ends.ensures.some in
    let alone : AreAlone K ends = single_alone m ones (rw (c.in_ok-columns.ensures.matrix, c.deref.ensures.value) at (c.are_single.ensures.0 c.if-not-are_single.false)) in
    IfOk-weaker c.is_zero_product.result _ _ (λ yes told.
    let product = rw (c.in_ok-columns.ensures.matrix, c.in_ok-columns.ensures.modulus, c.requires) at told in (
      λ e. kernel_made p A K c.args.rank ends m ones width high alone (product.0 e),
      λ s. product.1 (kernel_product p A K c.args.rank ends m ones width s),
    )) c.is_zero_product.ensures
