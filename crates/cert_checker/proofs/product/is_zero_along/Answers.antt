use Rattle.std.proofs.Common.{ℕ, ◌∙◌, sym, slice_index}
use Rattle.std.proofs.lemmas.Bool.{false≢true}
use Rattle.residue_words.specs.Matrix.{Matrix, IsVector, row}
use Rattle.cert_checker.specs.Product.{IsZeroAt}
use Rattle.cert_checker.proofs.Combining.{along_more, zero_stored, zero_where}
use Rattle.cert_checker.proofs.product.is_zero_along.Goals as goal

pub returns-then-not-is_zero_at : goal.returns-then-not-is_zero_at
returns-then-not-is_zero_at c =
    let B : Matrix = c.args.b.now.matrix in
    let t : ℕ = slice_index c.args.rows.now c.loop-k.k in
    let h : IsVector c.args.b.now.modulus B.width (row B t) = c.is_sound.ensures.entries.each t (c.requires.below c.loop-k.k c.loop-k-test.true) in (
      λ e. absurd (false≢true e),
      λ z.
          let here : IsZeroAt c.args.sums.now c.cols.result.now = rw c.cols.ensures.support (zero_stored c.args.b.now.modulus B.width (row B t) c.args.sums.now h (z c.loop-k.k c.loop-k-test.true)) in
          absurd (false≢true (sym c.if-not-is_zero_at.true ∙ c.is_zero_at.ensures.1 here)),
    )

pub loop-k-preserved : goal.loop-k-preserved
loop-k-preserved c =
    let B : Matrix = c.args.b.now.matrix in
    let t : ℕ = slice_index c.args.rows.now c.loop-k.k in
    along_more c.args.sums.now c.args.rows.now B c.loop-k.k c.loop-k.invariant
    (zero_where (row B t) c.args.sums.now (rw c.cols.ensures.support at (c.is_zero_at.ensures.0 c.if-not-is_zero_at.false)))
