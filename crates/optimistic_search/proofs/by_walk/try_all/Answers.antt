use Rattle.std.proofs.Common.{◌∙◌, [], arith, subst, sym, refl}
use Rattle.std.proofs.lemmas.List.{append-nil}
use Rattle.residue_words.specs.Matrix.{Matrix}
use Rattle.sparse_rows.specs.Rows.{ResidueMatrix}
use Rattle.pivot_table.specs.Greedy.{IsTried}
use Rattle.pivot_walks.specs.Cost.{TakesItsCost}
use Rattle.optimistic_search.proofs.Costing.{row_more_costs}
use Rattle.optimistic_search.proofs.Searching.{greedy_none, greedy_more, tried_starts}
use Rattle.optimistic_search.proofs.by_walk.try_all.Goals as goal

pub loop-row-init : goal.loop-row-init
loop-row-init g c = (refl, greedy_none c.args.search.now.rows.matrix c.args.search.now.pairs, λ n e. omega arith)

pub loop-row-preserved : goal.loop-row-preserved
loop-row-preserved g c =
    let inv = c.loop-row.invariant in
    let t = c.try_row.ensures in
    let A : Matrix = c.args.search.now.rows.matrix in
    let h = c.loop-row.search.pairs in
    let new = c.try_row.new.self.pairs in
    let tried : IsTried A c.loop-row.row h new = subst (λ (m : ResidueMatrix). IsTried m.matrix c.loop-row.row h new) inv.0 t.tried in (
      t.rows ∙ inv.0,
      greedy_more A c.args.search.now.pairs h new c.loop-row.row inv.1 tried,
      row_more_costs A h new c.loop-row.row c.args.steps.now c.loop-row.steps c.try_row.new.steps (tried_starts A c.loop-row.row h h new tried ([], sym (append-nil h))) inv.2
          (subst (λ (m : ResidueMatrix). TakesItsCost m.matrix h c.loop-row.row c.loop-row.steps c.try_row.new.steps) inv.0 t.cost),
    )
