use Rattle.std.proofs.Common.{◌∙◌, [], ◌∷◌, ◌++◌, ap, ap₂, map, sym}
use Rattle.std.proofs.lemmas.List.{map_more, take_all}
use Rattle.matrix_cells.specs.Cells.{column_of}
use Rattle.matrix_cells.proofs.values_at_places.columns.Goals as goal

pub loop-cell-preserved : goal.loop-cell-preserved
loop-cell-preserved c =
    c.in_ok-push.ensures.items ∙ ap₂ (λ xs x. xs ++ x ∷ []) c.loop-cell.invariant c.column.ensures ∙ sym (map_more column_of c.args.cells.now c.loop-cell.cell-index _ c.loop-cell-test.true)

pub returns : goal.returns
returns c = c.loop-cell.invariant ∙ ap (map column_of) (take_all c.loop-cell.cell-index c.args.cells.now c.loop-cell-test.false)
