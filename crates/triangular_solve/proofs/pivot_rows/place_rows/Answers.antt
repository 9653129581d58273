use Rattle.std.proofs.Common.{ℕ, [], ◌∙◌, get_or, length, refl, ap, arith}
use Rattle.std.proofs.lemmas.List.{length-take-le, take_all}
use Rattle.residue_words.specs.Matrix.{Matrix}
use Rattle.sparse_rows.specs.Stored.{with_row}
use Rattle.triangular_solve.specs.PivotRows.{row_on, rows_on}
use Rattle.triangular_solve.proofs.Listing.{no_pair}
use Rattle.triangular_solve.proofs.PlacingRows.{pair_row, rows_on_more}
use Rattle.triangular_solve.proofs.pivot_rows.place_rows.Goals as goal

no_rows_of : ℕ → Matrix
no_rows_of n = record { height = 0; width = n; rows = [] }

pub loop-k-init : goal.loop-k-init
unfolding no_rows_of
loop-k-init c = record {
  modulus = c.in_ok-placed.ensures.modulus ∙ c.modulus-modulus.ensures.value;
  matrix = c.in_ok-placed.ensures.matrix ∙ ap no_rows_of (ap length c.columns.ensures.columns);
}

pub append_row-requires-clause-inside : goal.append_row-requires-clause-inside
append_row-requires-clause-inside c = omega (arith, pair_row c.args.pairs.now c.loop-k.k c.loop-k-test.true, c.requires.inside c.loop-k.k c.loop-k-test.true)

pub append_row-requires-clause-width : goal.append_row-requires-clause-width
append_row-requires-clause-width c = ap (λ (M : Matrix). M.width) c.loop-k.invariant.matrix

pub append_row-requires-clause-height_small : goal.append_row-requires-clause-height_small
append_row-requires-clause-height_small c = omega (arith, c.requires.few, c.loop-k-test.true, ap (λ (M : Matrix). M.height) c.loop-k.invariant.matrix, length-take-le c.loop-k.k c.args.pairs.now (omega arith))

pub loop-k-preserved : goal.loop-k-preserved
loop-k-preserved c =
    let inv = c.loop-k.invariant in
    let i : ℕ = (get_or c.args.pairs.now c.loop-k.k no_pair).row in
    record {
      modulus = c.append_row.ensures.modulus ∙ inv.modulus;
      matrix = c.in_ok-append_row.ensures.matrix ∙ ap (λ M. with_row M (row_on c.args.rows.now.matrix c.args.order.now i)) inv.matrix
          ∙ rows_on_more c.args.rows.now.matrix c.args.order.now c.args.pairs.now c.loop-k.k (row_on c.args.rows.now.matrix c.args.order.now i) c.loop-k-test.true refl;
    }

pub returns-clause-matrix : goal.returns-clause-matrix
returns-clause-matrix c = c.loop-k.invariant.matrix ∙ ap (rows_on c.args.rows.now.matrix c.args.order.now) (take_all c.loop-k.k c.args.pairs.now c.loop-k-test.false)
