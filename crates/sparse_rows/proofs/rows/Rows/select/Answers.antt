use Rattle.std.proofs.Common.{ℕ, ◌≡◌, ◌<◌, ◌∙◌, ap, ap₂, get_or, sym, take}
use Rattle.std.proofs.lemmas.List.{take_more}
use Rattle.std.proofs.lemmas.List.Elements.{All-get_or}
use Rattle.residue_words.specs.Matrix.{IsMatrix, row}
use Rattle.sparse_rows.specs.Rows.{ResidueMatrix, selected}
use Rattle.sparse_rows.specs.Stored.{spread, with_row}
use Rattle.sparse_rows.proofs.Loops.{selected_more}
use Rattle.sparse_rows.proofs.Spread.{spread_support}
use Rattle.sparse_rows.proofs.rows.Rows.select.Goals as goal

pub loop-i-preserved : goal.loop-i-preserved
loop-i-preserved c =
    let A : ResidueMatrix = c.args.self.now in
    let i : ℕ = get_or c.args.rows.now c.loop-i.i-index 0 in
    let sound : IsMatrix A.modulus A.matrix = c.modulus.ensures.sound in
    let low : i < A.matrix.height = All-get_or (λ k. k < A.matrix.height) c.args.rows.now c.loop-i.i-index 0 c.loop-i-test.true c.requires.inside in
    let width : c.loop-i.made.matrix.width ≡ A.matrix.width = ap (λ m. m.width) c.loop-i.invariant.matrix in
    let new : spread c.loop-i.made.matrix.width c.cols.result.now c.vals.result.now ≡ row A.matrix i =
    rw (c.cols.ensures.support, c.vals.ensures.values, width) (spread_support A.matrix.width (row A.matrix i) (sound.each i low).len) in
    record {
      modulus = c.append_entries.ensures.modulus ∙ c.loop-i.invariant.modulus;
      matrix = c.in_ok-append_entries.ensures.matrix ∙ ap₂ with_row c.loop-i.invariant.matrix new ∙ selected_more A.matrix (take c.loop-i.i-index c.args.rows.now) i
          ∙ ap (selected A.matrix) (sym (take_more c.args.rows.now c.loop-i.i-index 0 c.loop-i-test.true));
    }
