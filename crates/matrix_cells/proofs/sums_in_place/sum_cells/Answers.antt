use Rattle.std.proofs.Common.{ℕ, ◌≡◌, ◌≢◌, ◌≤◌, ◌<◌, ◌+◌, ◌%◌, ◌∙◌, List, [], ◌∷◌, ◌++◌, ap, arith, get_or, sym, subst, take, drop}
use Rattle.std.specs.List.{All}
use Rattle.std.proofs.lemmas.List.{drop-drop, get_or-drop, take_all, take_more}
use Rattle.std.proofs.lemmas.List.Elements.{All-get_or}
use Rattle.matrix_cells.specs.declared.values_at_places.Cell.{Cell}
use Rattle.matrix_cells.specs.Cells.{AreSums}
use Rattle.matrix_cells.proofs.Summing.{IsSummed, kept_few, kept_before, summed_kept, summed_more, summed_move}
use Rattle.matrix_cells.proofs.sums_in_place.sum_cells.Goals as goal
use Rattle.matrix_cells.proofs.sums_in_place.sum_cells.Goals.{After-add, then-cell-sum, else-cell-sum}

-- lists with the same rest have the same cell before it
read_rest : (k : ℕ) (xs ys : List Cell) (d : Cell) → drop k xs ≡ drop k ys → get_or xs k d ≡ get_or ys k d
read_rest k xs ys d e =
    let at : (zs : List Cell) → get_or (drop k zs) 0 d ≡ get_or zs k d = λ zs. get_or-drop k zs 0 d ∙ ap (λ i. get_or zs i d) (let z : k + 0 ≡ k = omega arith in z) in
    sym (at xs) ∙ ap (λ zs. get_or zs 0 d) e ∙ at ys

-- the cell
cell : After-add → Cell
cell c = get_or c.args.cells.now c.loop-k.k record { place = 0; val = 0 }

-- when the cell's place is reached
record IsReached (c : After-add) : Type 0 where
  at : (cell c).place ≡ c.if-cell-sum.sum.place
  summed : IsSummed c.args.modulus (take c.loop-k.k c.args.cells.now) (take c.if-cell-sum.kept c.if-cell-sum.cells) c.if-cell-sum.sum
  few : c.if-cell-sum.kept ≤ c.loop-k.k
  rest : drop c.loop-k.k c.if-cell-sum.cells ≡ drop c.loop-k.k c.args.cells.now

-- and so it is in the cells as they are now
read : (c : After-add) → get_or c.loop-k.cells c.loop-k.k record { place = 0; val = 0 } ≡ cell c
unfolding cell
read c = read_rest c.loop-k.k _ _ _ c.loop-k.invariant.rest

reached : (c : After-add) → IsReached c
unfolding cell
reached c =
    let p : ℕ = c.args.modulus in
    elim c.if-cell-sum.branch [
      | then-cell-sum w ↦
          let next : c.if-cell-sum.sum ≡ record { place = (cell c).place; val = 0 } = w.sum-is ∙ ap (λ (d : Cell). record { place = d.place; val = 0 }) (read c) in
          let least : c.loop-k.sum.place ≤ (cell c).place = c.loop-k.invariant.later c.loop-k.k (omega arith) c.loop-k-test.true in
          let other : (cell c).place ≢ c.loop-k.sum.place = λ e. w.if-cell-sum.true (ap (λ (d : Cell). d.place) (read c) ∙ e) in
          let later : c.loop-k.sum.place < (cell c).place = omega (arith, least, other) in
          let sums : AreSums p (take c.loop-k.k c.args.cells.now) (take w.keep_nonzero-kept.result w.keep_nonzero-kept.new.cells) =
          summed_kept p _ _ _ c.loop-k.sum c.loop-k.invariant.summed w.keep_nonzero-kept.ensures.kept in
          let before : All (λ d. d.place < (cell c).place) (take w.keep_nonzero-kept.result w.keep_nonzero-kept.new.cells) =
          kept_before _ _ c.loop-k.sum (cell c).place c.loop-k.invariant.summed.before w.keep_nonzero-kept.ensures.kept later in
          let few : w.keep_nonzero-kept.result ≤ c.loop-k.k = kept_few c.loop-k.kept c.loop-k.sum.val c.loop-k.k _ w.keep_nonzero-kept.ensures.many c.loop-k.invariant.few c.loop-k.invariant.room in
          record {
            at = sym (ap (λ (d : Cell). d.place) next);
            summed = rw (next, w.kept-is, w.cells-is) (summed_move p _ _ (cell c).place (omega (arith, c.loop-k.invariant.summed.residue)) sums before);
            few = omega (arith, w.kept-is, few);
            rest = ap (drop c.loop-k.k) w.cells-is ∙ w.keep_nonzero-kept.ensures.behind c.loop-k.k few ∙ c.loop-k.invariant.rest;
          }
      | else-cell-sum w ↦ record {
        at = sym (ap (λ (d : Cell). d.place) (read c)) ∙ w.if-cell-sum.false ∙ sym (ap (λ (d : Cell). d.place) w.sum-is);
        summed = rw (w.sum-is, w.kept-is, w.cells-is) c.loop-k.invariant.summed;
        few = omega (arith, w.kept-is, c.loop-k.invariant.few);
        rest = ap (drop c.loop-k.k) w.cells-is ∙ c.loop-k.invariant.rest;
      }
    ]

pub loop-k-preserved : goal.loop-k-preserved
unfolding cell
loop-k-preserved c =
    let r : IsReached c = reached c in
    let all : take (c.loop-k.k + 1) c.args.cells.now ≡ take c.loop-k.k c.args.cells.now ++ cell c ∷ [] = take_more c.args.cells.now c.loop-k.k record { place = 0; val = 0 } c.loop-k-test.true in
    record {
      summed = rw all (summed_more c.args.modulus _ _ c.if-cell-sum.sum (cell c) c.add.result r.summed r.at (c.add.ensures.value ∙ ap (λ (d : Cell). (c.if-cell-sum.sum.val + d.val) % c.args.modulus) (read c)) c.add.ensures.residue);
      few = omega (arith, r.few);
      room = λ some. omega (arith, r.few);
      rest = sym (drop-drop 1 c.loop-k.k c.if-cell-sum.cells) ∙ ap (drop 1) r.rest ∙ drop-drop 1 c.loop-k.k c.args.cells.now;
      later = λ k a b. (let up : (cell c).place ≤ (get_or c.args.cells.now k record { place = 0; val = 0 }).place = c.requires.sorted c.loop-k.k k record { place = 0; val = 0 } (omega arith) b in
          omega (arith, r.at));
    }

pub add-requires-clause-right : goal.add-requires-clause-right
add-requires-clause-right c =
    rw (read_rest c.loop-k.k _ _ record { place = 0; val = 0 } c.loop-k.invariant.rest) (All-get_or (λ (d : Cell). d.val < c.args.modulus) c.args.cells.now c.loop-k.k record { place = 0; val = 0 } c.loop-k-test.true c.requires.residues)

pub returns-clause-sums : goal.returns-clause-sums
returns-clause-sums c =
    let sums : AreSums c.args.modulus (take c.loop-k.k c.args.cells.now) (take c.keep_nonzero.result c.keep_nonzero.new.cells) = summed_kept c.args.modulus _ _ _ c.loop-k.sum c.loop-k.invariant.summed c.keep_nonzero.ensures.kept in
    subst (λ t. AreSums c.args.modulus t (take c.keep_nonzero.result c.keep_nonzero.new.cells)) (take_all c.loop-k.k c.args.cells.now c.loop-k-test.false) sums
