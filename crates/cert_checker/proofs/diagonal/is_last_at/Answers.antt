use Rattle.std.proofs.Common.{ℕ, ◌≡◌, ◌+◌, ◌-◌, List, length, slice_index, ap, arith, ◌∙◌}
use Rattle.std.proofs.lemmas.Bool.{eqb-true, eq-eqb, false≢true}
use Rattle.residue_words.specs.Matrix.{IsVector, row}
use Rattle.sparse_rows.specs.Rows.{support}
use Rattle.cert_checker.proofs.Ending.{last_none, last_unique, last_yes}
use Rattle.cert_checker.proofs.diagonal.is_last_at.Goals as goal

pub returns-then-cols-eq0 : goal.returns-then-cols-eq0
returns-then-cols-eq0 c = (
  λ e. absurd (false≢true e),
  λ l. absurd (last_none c.args.rows.now.matrix.width (row c.args.rows.now.matrix c.args.i) c.args.k (omega (arith, ap length c.cols-cols.ensures.support, c.if-cols-eq0.true)) l),
)

pub returns : goal.returns
returns c =
    let v : List ℕ = row c.args.rows.now.matrix c.args.i in
    let h : IsVector c.args.rows.now.modulus c.args.rows.now.matrix.width v = c.is_sound.ensures.entries.each c.args.i c.requires.row in
    let q : ℕ = length c.cols-cols.result.now - 1 in
    let last : q + 1 ≡ length (support v) = omega (arith, ap length c.cols-cols.ensures.support, c.if-cols-eq0.false) in
    let at : slice_index c.cols-cols.result.now q ≡ slice_index (support v) q = ap (λ xs. slice_index xs q) c.cols-cols.ensures.support in (
      λ e. last_yes h c.args.k q last (omega (arith, at, eqb-true _ _ e)),
      λ l. eq-eqb _ _ (at ∙ last_unique h c.args.k q last l),
    )
