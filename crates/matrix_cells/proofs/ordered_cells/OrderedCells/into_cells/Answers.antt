use Rattle.std.proofs.Common.{◌≡◌, ◌++◌, ◌∷◌, [], ◌<◌, ◌∙◌, ap, ap₂, arith, length, get_or, subst, sym}
use Rattle.std.proofs.lemmas.Grind.{get_or_default_zero}
use Rattle.std.proofs.lemmas.List.{take_all, take_more}
use Rattle.matrix_cells.specs.declared.values_at_places.Cell.{Cell}
use Rattle.matrix_cells.specs.Cells.{IsRowOfPart, ordered_cells, place_of}
use Rattle.matrix_cells.proofs.Ordered.{cell_is, cells_empty, first_row, length_cells}
use Rattle.matrix_cells.proofs.ordered_cells.OrderedCells.into_cells.Goals as goal

pub returns-then-is_empty : goal.returns-then-is_empty
returns-then-is_empty c =
    ap (λ cells. cells ++ c.args.others.items) (sym (cells_empty c.self.inside.starts.items c.self.inside.cols.items c.self.inside.vals.items (grind (arith, c.is_empty.ensures, c.if-is_empty.true, c.self.inside.cols.ok.0))) ∙ c.self.view_is)

pub loop-k-init : goal.loop-k-init
loop-k-init c =
    let first = first_row _ _ _ _ _ c.self.invariant (grind (arith, c.is_empty.ensures, c.if-is_empty.false, c.self.inside.cols.ok.0)) in
    record { made = c.in_ok-cells.ensures.items; begun = first.0; before = omega (arith, first.1) }

pub row_at-row-requires-clause-begun : goal.row_at-row-requires-clause-begun
row_at-row-requires-clause-begun c = rw c.deref.ensures.value c.loop-k.invariant.begun

pub row_at-row-requires-clause-before : goal.row_at-row-requires-clause-before
row_at-row-requires-clause-before c = rw c.deref.ensures.value c.loop-k.invariant.before

pub overflow_cast-row : goal.overflow_cast-row
overflow_cast-row c = record { fits = omega (arith, c.self.invariant.short, ap length c.deref.ensures.value, c.row_at-row.ensures.begun) }

pub loop-k-preserved : goal.loop-k-preserved
loop-k-preserved c =
    let o = c.self.inside in
    let inside : c.loop-k.k < length o.cols.items = omega (arith, c.loop-k-test.true, c.len-k-end.ensures, o.cols.ok.0) in
    let row : IsRowOfPart o.starts.items c.loop-k.k c.row_at-row.result = subst (λ s. IsRowOfPart s c.loop-k.k c.row_at-row.result) c.deref.ensures.value c.row_at-row.ensures in
    let d : Cell = record { place = 0; val = 0 } in
    let cell : c.new.result ≡ get_or (ordered_cells o.starts.items o.cols.items o.vals.items) c.loop-k.k d =
    ap₂ (λ place val. record { place = place; val = val }) (c.new.ensures.place ∙ ap (place_of c.row_at-row.result) (c.index.ensures ∙ get_or_default_zero o.cols.items c.loop-k.k _ inside)) (c.new.ensures.val ∙ c.index-in-loop-k.ensures ∙ get_or_default_zero o.vals.items c.loop-k.k _ (omega (arith, inside, c.self.invariant.long)))
    ∙ sym (cell_is _ _ _ _ _ c.self.invariant c.loop-k.k c.row_at-row.result inside row) in
    record {
      made = c.in_ok-push.ensures.items ∙ ap₂ (λ xs x. xs ++ x ∷ []) c.loop-k.invariant.made cell ∙ sym (take_more (ordered_cells o.starts.items o.cols.items o.vals.items) c.loop-k.k d (omega (arith, inside, length_cells o.starts.items o.cols.items o.vals.items)));
      begun = row.begun;
      before = omega (arith, row.before);
    }

pub returns : goal.returns
returns c =
    let o = c.self.inside in
    c.in_ok-extend_from_slice.ensures.items ∙ ap₂ (λ xs ys. xs ++ ys) (c.loop-k.invariant.made ∙ take_all c.loop-k.k (ordered_cells o.starts.items o.cols.items o.vals.items) (omega (arith, c.loop-k-test.false, c.len-k-end.ensures, o.cols.ok.0, length_cells o.starts.items o.cols.items o.vals.items)) ∙ c.self.view_is) c.deref-2.ensures.value
