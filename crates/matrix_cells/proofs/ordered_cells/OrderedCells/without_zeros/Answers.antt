use Rattle.std.proofs.Common.{◌≡◌, ◌++◌, ◌∷◌, [], ◌+◌, ◌<◌, ◌∙◌, All, List, inl, inr, ap, ap₂, arith, length, get_or, subst, sym, take}
use Rattle.std.proofs.lemmas.Bool.{cases_eq}
use Rattle.std.proofs.lemmas.Grind.{get_or_default_zero}
use Rattle.std.proofs.lemmas.List.{get_or-take, length-take-le, take_all, take_more}
use Rattle.matrix_cells.specs.declared.values_at_places.Cell.{Cell}
use Rattle.matrix_cells.specs.Cells.{IsRowOfPart, ordered_cells, place_of, without_zeros}
use Rattle.matrix_cells.proofs.Ordered.{at_cells, cell_is, first_row, length_cells}
use Rattle.matrix_cells.proofs.Zeros.{all_without, some_more, without_none, zero_more}
use Rattle.matrix_cells.proofs.ordered_cells.OrderedCells.without_zeros.Goals as goal

pub returns-then-self : goal.returns-then-self
returns-then-self c = without_none c.args.self (subst (All (λ t. 0 < t.val)) c.self.view_is (c.self.invariant.positive c.if-self.true))

pub loop-k-init : goal.loop-k-init
loop-k-init c = record {
  made = c.new-kept.ensures;
  begun = λ l. (first_row _ _ _ _ _ c.self.invariant l).0;
  before = λ l. omega (arith, (first_row _ _ _ _ _ c.self.invariant l).1);
}

pub push_nonzero-requires-clause-behind : goal.push_nonzero-requires-clause-behind
push_nonzero-requires-clause-behind c =
    let o = c.self.inside in
    let k = c.loop-k.k in
    let cells : List Cell = ordered_cells o.starts.items o.cols.items o.vals.items in
    let inside : k < length o.cols.items = omega (arith, c.loop-k-test.true, c.len-k-end.ensures, o.cols.ok.0) in
    let row : IsRowOfPart o.starts.items k c.row_at-row.result = subst (λ s. IsRowOfPart s k c.row_at-row.result) c.deref.ensures.value c.row_at-row.ensures in
    let place = place_of c.row_at-row.result c.index.result.now in
    let column : c.index.result.now ≡ get_or o.cols.items k 0 = c.index.ensures ∙ get_or_default_zero o.cols.items k _ inside in
    let here : (get_or cells k record { place = 0; val = 0 }).place ≡ place = ap (λ (t : Cell). t.place) (cell_is _ _ _ _ _ c.self.invariant k c.row_at-row.result inside row) ∙ ap (place_of c.row_at-row.result) (sym column) in
    subst (All (λ t. t.place < place)) (sym c.loop-k.invariant.made) (all_without (λ t. t.place < place) (take k cells) (λ i d l.
    let low : i < k = omega (arith, l, length-take-le k cells (omega (arith, inside, length_cells o.starts.items o.cols.items o.vals.items))) in
    omega (
      arith,
      ap (λ (t : Cell). t.place) (get_or-take k cells i d low),
      c.self.invariant.ascending i k d low (omega (arith, inside, length_cells o.starts.items o.cols.items o.vals.items)),
      ap (λ (t : Cell). t.place) (at_cells o.starts.items o.cols.items o.vals.items k d inside),
      ap (λ (t : Cell). t.place) (at_cells o.starts.items o.cols.items o.vals.items k record { place = 0; val = 0 } inside),
      here,
    )))

pub loop-k-preserved : goal.loop-k-preserved
loop-k-preserved c =
    let o = c.self.inside in
    let k = c.loop-k.k in
    let cells : List Cell = ordered_cells o.starts.items o.cols.items o.vals.items in
    let inside : k < length o.cols.items = omega (arith, c.loop-k-test.true, c.len-k-end.ensures, o.cols.ok.0) in
    let row : IsRowOfPart o.starts.items k c.row_at-row.result = subst (λ s. IsRowOfPart s k c.row_at-row.result) c.deref.ensures.value c.row_at-row.ensures in
    let d : Cell = record { place = 0; val = 0 } in
    let v = c.index-in-loop-k.result.now in
    let cell : Cell = record { place = place_of c.row_at-row.result c.index.result.now; val = v } in
    let is : cell ≡ get_or cells k d =
    ap₂ (λ place val. record { place = place; val = val }) (ap (place_of c.row_at-row.result) (c.index.ensures ∙ get_or_default_zero o.cols.items k _ inside)) (c.index-in-loop-k.ensures ∙ get_or_default_zero o.vals.items k _ (omega (arith, inside, c.self.invariant.long)))
    ∙ sym (cell_is _ _ _ _ _ c.self.invariant k c.row_at-row.result inside row) in
    let more : take (k + 1) cells ≡ take k cells ++ cell ∷ [] = take_more cells k d (omega (arith, inside, length_cells o.starts.items o.cols.items o.vals.items)) ∙ ap (λ t. take k cells ++ t ∷ []) (sym is) in
    record {
      made = elim (cases_eq v 0) [
        | inl q ↦ c.in_ok-push_nonzero.ensures.zero q ∙ c.loop-k.invariant.made ∙ sym (ap without_zeros more ∙ zero_more (take k cells) cell q)
        | inr n ↦ c.in_ok-push_nonzero.ensures.nonzero (omega arith) ∙ ap (λ t. t ++ cell ∷ []) c.loop-k.invariant.made ∙ sym (ap without_zeros more ∙ some_more (take k cells) cell (omega arith))
      ];
      begun = λ l. row.begun;
      before = λ l. omega (arith, row.before);
    }

pub returns : goal.returns
returns c =
    let o = c.self.inside in
    let cells : List Cell = ordered_cells o.starts.items o.cols.items o.vals.items in
    c.loop-k.invariant.made ∙ ap without_zeros (take_all c.loop-k.k cells (omega (arith, c.loop-k-test.false, c.len-k-end.ensures, o.cols.ok.0, length_cells o.starts.items o.cols.items o.vals.items)) ∙ c.self.view_is)
