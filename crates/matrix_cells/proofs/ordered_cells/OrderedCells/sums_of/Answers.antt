use Rattle.std.proofs.Common.{ℕ, ◌≡◌, ◌<◌, ◌+◌, ◌∙◌, List, [], ◌∷◌, ◌++◌, inl, inr, ap, arith, cond, eqb, get_or, sym, subst, take}
use Rattle.std.proofs.lemmas.Bool.{cases_eq, cond-true, cond-false, eq-eqb, ne_eqb}
use Rattle.std.proofs.lemmas.List.{take_all, take_more}
use Rattle.std.proofs.lemmas.List.Elements.{All-get_or}
use Rattle.matrix_cells.specs.declared.values_at_places.Cell.{Cell}
use Rattle.matrix_cells.specs.Cells.{AreSums, column_of, place_of, row_of}
use Rattle.matrix_cells.proofs.Summing.{IsSummed, kept_before, summed_kept, summed_more, summed_move}
use Rattle.matrix_cells.proofs.ordered_cells.OrderedCells.sums_of.Goals as goal
use Rattle.matrix_cells.proofs.ordered_cells.OrderedCells.sums_of.Goals.{After-add, then-cell-sum-2+in_ok-push_nonzero, else-cell-sum-2}

-- a sum is appended, if it is not 0
appended : (kept kept' : List Cell) (sum : Cell) (i j : ℕ) → i ≡ row_of sum → j ≡ column_of sum → (sum.val ≡ 0 → kept' ≡ kept) → (0 < sum.val → kept' ≡ kept ++ record { place = place_of i j; val = sum.val } ∷ []) →
    kept' ≡ cond (eqb sum.val 0) kept (kept ++ sum ∷ [])
appended kept kept' sum i j row column zero some = elim (cases_eq sum.val 0) [
  | inl z ↦ zero z ∙ sym (cond-true (eqb sum.val 0) kept (kept ++ sum ∷ []) (eq-eqb sum.val 0 z))
  | inr d ↦
      let place : place_of i j ≡ sum.place = omega (arith, row, column) in
      some (omega arith) ∙ ap (λ t. kept ++ record { place = t; val = sum.val } ∷ []) place ∙ sym (cond-false (eqb sum.val 0) kept (kept ++ sum ∷ []) (ne_eqb sum.val 0 d))
]

-- the cell
cell : After-add → Cell
cell c = get_or c.args.cells.now c.loop-k.k record { place = 0; val = 0 }

-- when the cell's place is reached
record IsReached (c : After-add) : Type 0 where
  at : (cell c).place ≡ c.if-cell-sum-2.sum.place
  summed : IsSummed c.args.modulus (take c.loop-k.k c.args.cells.now) c.if-cell-sum-2.sums c.if-cell-sum-2.sum

reached : (c : After-add) → IsReached c
unfolding cell
reached c =
    let p : ℕ = c.args.modulus in
    elim c.if-cell-sum-2.branch [
      | then-cell-sum-2+in_ok-push_nonzero w ↦
          let kept = appended c.loop-k.sums w.push_nonzero.new.self c.loop-k.sum w.row.result w.column.result w.row.ensures w.column.ensures w.in_ok-push_nonzero.ensures.zero w.in_ok-push_nonzero.ensures.nonzero in
          let sums = summed_kept p _ _ _ c.loop-k.sum c.loop-k.invariant.summed kept in
          let before = kept_before _ _ c.loop-k.sum (cell c).place c.loop-k.invariant.summed.before kept w.if-cell-sum-2.true in
          record {
            at = sym (ap (λ (d : Cell). d.place) w.sum-is);
            summed = rw (w.sum-is, w.sums-is) (summed_move p _ _ (cell c).place (omega (arith, c.loop-k.invariant.summed.residue)) sums before);
          }
      | else-cell-sum-2 w ↦ record {
        at = omega (arith, c.if-cell-sum.false, w.if-cell-sum-2.false, ap (λ (d : Cell). d.place) w.sum-is);
        summed = rw (w.sum-is, w.sums-is) c.loop-k.invariant.summed;
      }
    ]

pub loop-k-preserved : goal.loop-k-preserved
unfolding cell
loop-k-preserved c =
    let r : IsReached c = reached c in
    let all : take (c.loop-k.k + 1) c.args.cells.now ≡ take c.loop-k.k c.args.cells.now ++ cell c ∷ [] = take_more c.args.cells.now c.loop-k.k record { place = 0; val = 0 } c.loop-k-test.true in
    record {
      summed = rw all (summed_more c.args.modulus _ _ c.if-cell-sum-2.sum (cell c) c.add.result r.summed r.at c.add.ensures.value c.add.ensures.residue);
      row = omega (arith, r.at, c.requires.small, All-get_or (λ (d : Cell). row_of d < c.args.height) c.args.cells.now c.loop-k.k record { place = 0; val = 0 } c.loop-k-test.true c.requires.within);
    }

pub returns : goal.returns
returns c =
    let kept = appended c.loop-k.sums c.push_nonzero-2.new.self c.loop-k.sum c.row-2.result c.column-2.result c.row-2.ensures c.column-2.ensures c.in_ok-push_nonzero-2.ensures.zero c.in_ok-push_nonzero-2.ensures.nonzero in
    let sums : AreSums c.args.modulus (take c.loop-k.k c.args.cells.now) c.push_nonzero-2.new.self = summed_kept c.args.modulus _ _ _ c.loop-k.sum c.loop-k.invariant.summed kept in
    subst (λ t. AreSums c.args.modulus t c.push_nonzero-2.new.self) (take_all c.loop-k.k c.args.cells.now c.loop-k-test.false) sums
