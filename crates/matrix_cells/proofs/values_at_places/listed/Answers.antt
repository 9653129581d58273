use Rattle.std.proofs.Common.{◌≡◌, ◌++◌, ◌∷◌, [], ◌∙◌, ap₂, arith, sym}
use Rattle.std.proofs.lemmas.List.FromFn.{map-range_with_len_more}
use Rattle.matrix_cells.specs.Cells.{listed_cell}
use Rattle.matrix_cells.proofs.values_at_places.listed.Goals as goal

pub loop-k-preserved : goal.loop-k-preserved
loop-k-preserved c =
    let a = c.args in
    let k = c.loop-k.k in
    let is : c.new.result ≡ listed_cell a.rows.now a.columns.now a.values.now k = ap₂ (λ place val. record { place = place; val = val }) c.new.ensures.place c.new.ensures.val in
    c.in_ok-push.ensures.items ∙ ap₂ (λ xs x. xs ++ x ∷ []) c.loop-k.invariant is ∙ sym (map-range_with_len_more (listed_cell a.rows.now a.columns.now a.values.now) 0 k k (omega arith))
