use Rattle.std.proofs.Common.{◌∙◌, [], ◌∷◌, ◌++◌, ap, ap₂, map, refl, sym}
use Rattle.std.proofs.lemmas.List.{map_more, take_all}
use Rattle.matrix_cells.proofs.values_at_places.values.Goals as goal

pub loop-cell-preserved : goal.loop-cell-preserved
loop-cell-preserved c =
    c.in_ok-push.ensures.items ∙ ap₂ (λ xs x. xs ++ x ∷ []) c.loop-cell.invariant refl ∙ sym (map_more (λ c. c.val) c.args.cells.now c.loop-cell.cell-index (record { place = 0; val = 0 }) c.loop-cell-test.true)

pub returns : goal.returns
returns c = c.loop-cell.invariant ∙ ap (map (λ c. c.val)) (take_all c.loop-cell.cell-index c.args.cells.now c.loop-cell-test.false)
