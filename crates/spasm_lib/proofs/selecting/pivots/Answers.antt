-- What was searched, put in order and copied.
use Rattle.std.proofs.Common.{List, sym, subst, ◌∙◌}
use Rattle.residue_words.specs.declared.plain.Pair.{Pair}
use Rattle.pivot_table.specs.Selected.{Selected}
use Rattle.pluq_factor.proofs.Selecting.{selected_at}
use Rattle.spasm_lib.proofs.selecting.pivots.Goals as goal

pub returns : goal.returns
returns g c =
    let first = c.in_ok-first in
    let all = c.in_ok-book in
    let triangle = c.in_ok-triangle in
    subst (λ (qs : List Pair). Selected c.args.a.now.matrix c.args.team.workers qs) (sym (c.in_ok-pairs.ensures.items ∙ c.pairs.ensures.pairs))
    (selected_at first.ensures.rows all.ensures.rows first.ensures.pairs all.ensures.begins all.ensures.maximal all.ensures.greedy triangle.ensures.order)
