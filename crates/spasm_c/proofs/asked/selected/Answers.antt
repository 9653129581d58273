-- What was searched, put in order and copied.
use Rattle.std.proofs.Common.{◌∙◌, List, subst, sym}
use Rattle.residue_words.specs.declared.plain.Pair.{Pair}
use Rattle.sparse_rows.specs.Rows.{ResidueMatrix}
use Rattle.pivot_table.specs.Greedy.{IsGreedy}
use Rattle.pivot_table.specs.History.{Maximal}
use Rattle.pivot_table.specs.Order.{IsTriangularOrder}
use Rattle.pivot_table.specs.Selected.{Selected}
use Rattle.pivot_table.proofs.Selecting.{selected}
use Rattle.spasm_c.proofs.asked.selected.Goals as goal

pub returns : goal.returns
returns c =
    let rows : ResidueMatrix = c.args.a.now in
    let first = c.in_ok-first in
    let all = c.in_ok-book in
    let triangle = c.in_ok-triangle in
    subst (λ (qs : List Pair). Selected rows.matrix 1 qs) (sym (c.in_ok-pairs.ensures.items ∙ c.pairs.ensures.pairs))
    (selected rows.matrix 1 first.first.pairs all.book.pairs triangle.triangle.pairs first.ensures.pairs all.ensures.begins
    (subst (λ (M : ResidueMatrix). Maximal M.matrix all.book.pairs) first.ensures.rows all.ensures.maximal)
    (subst (λ (M : ResidueMatrix). IsTriangularOrder M.matrix all.book.pairs triangle.triangle.pairs) (all.ensures.rows ∙ first.ensures.rows) triangle.ensures.order)
    (λ one. subst (λ (M : ResidueMatrix). IsGreedy M.matrix first.first.pairs all.book.pairs) first.ensures.rows all.ensures.greedy))
