use Rattle.std.proofs.Common.{ℕ, ◌≡◌, ◌+◌, ◌∙◌, ap, subst, sym, refl, arith}
use Rattle.residue_words.specs.Matrix.{Matrix, IsMatrix}
use Rattle.sparse_rows.specs.Placed.{AreBothZeroFrom, IsNextInEither, matrices_from}
use Rattle.cert_checker.proofs.Narrowing.{AreCombinedBefore, combined_all, combined_more}
use Rattle.cert_checker.proofs.product.are_rows_of_product.Goals as goal

pub of-filled-requires : goal.of-filled-requires
of-filled-requires c = sym c.requires.fit.height

pub loop-i-init : goal.loop-i-init
loop-i-init c =
    let V : Matrix = c.args.v.now.matrix in
    let Y : Matrix = c.args.y.now.matrix in
    let from : c.of-filled.result.from ≡ 0 = ap (λ f. f.from) c.of-filled.ensures in (
      c.requires.width,
      c.requires.zero,
      record {
        within = omega (arith, from);
        before = λ i l. absurd (omega (arith, from));
      },
      c.of-filled.ensures ∙ ap (matrices_from V Y) (sym from),
    )

pub is_row_of_product-requires-clause-row : goal.is_row_of_product-requires-clause-row
is_row_of_product-requires-clause-row c = omega (arith, c.in-Some.ensures.row.below, ap (λ f. f.left.height) c.loop-i.invariant.3)

pub loop-i-preserved : goal.loop-i-preserved
loop-i-preserved c =
    let V : Matrix = c.args.v.now.matrix in
    let Y : Matrix = c.args.y.now.matrix in
    let p : ℕ = c.args.b.now.modulus in
    let v : IsMatrix p V = subst (λ q. IsMatrix q V) c.requires.fit.modulus c.is_sound.ensures.entries in
    let y : IsMatrix p Y = subst (λ q. IsMatrix q Y) c.requires.fit.left_modulus c.is_sound-2.ensures.entries in
    let i : ℕ = c.in-Some.i in
    let filled = c.loop-i.invariant.3 in
    let n : IsNextInEither V Y c.loop-i.filled.from i = subst (λ f. IsNextInEither f.left f.right c.loop-i.filled.from i) filled c.in-Some.ensures.row in
    let after : c.next_row.new.self ≡ matrices_from V Y (i + 1) = c.in-Some.ensures.after ∙ ap (λ f. matrices_from f.left f.right (i + 1)) filled in
    let from : i + 1 ≡ c.next_row.new.self.from = sym (ap (λ f. f.from) after) in (
      omega (arith, c.is_row_of_product.ensures.len, c.loop-i.invariant.0),
      c.is_row_of_product.ensures.zero c.if-not-is_row_of_product.false,
      subst (AreCombinedBefore p V Y c.args.b.now.matrix) from
          (combined_more v y c.requires.fit.height c.requires.fit.width c.requires.fit.inner c.loop-i.invariant.2 i n (c.is_row_of_product.ensures.combined.0 c.if-not-is_row_of_product.false)),
      after ∙ ap (matrices_from V Y) from,
    )

pub returns : goal.returns
returns c =
    let V : Matrix = c.args.v.now.matrix in
    let Y : Matrix = c.args.y.now.matrix in
    let p : ℕ = c.args.b.now.modulus in
    let v : IsMatrix p V = subst (λ q. IsMatrix q V) c.requires.fit.modulus c.is_sound.ensures.entries in
    let y : IsMatrix p Y = subst (λ q. IsMatrix q Y) c.requires.fit.left_modulus c.is_sound-2.ensures.entries in
    let z : AreBothZeroFrom V Y c.loop-i.filled.from = subst (λ f. AreBothZeroFrom f.left f.right c.loop-i.filled.from) c.loop-i.invariant.3 c.in_default.ensures.row in (
      λ _. combined_all v y c.requires.fit.height c.requires.fit.width c.requires.fit.inner c.loop-i.invariant.2 z,
      λ _. refl,
    )
