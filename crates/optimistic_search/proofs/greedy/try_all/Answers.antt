use Rattle.std.proofs.Common.{◌∙◌, subst, refl, arith}
use Rattle.std.proofs.lemmas.Bool.{not-true}
use Rattle.residue_words.specs.Matrix.{IsMatrix}
use Rattle.sparse_rows.specs.Rows.{AreZeroFrom, IsNextFilled, ResidueMatrix}
use Rattle.pivot_table.specs.Greedy.{IsTried}
use Rattle.optimistic_search.proofs.Searching.{greedy_none, greedy_more, greedy_past}
use Rattle.optimistic_search.proofs.greedy.try_all.Goals as goal

pub loop-row-init : goal.loop-row-init
loop-row-init c = (refl, omega arith, λ left. greedy_none c.args.search.now.rows.matrix c.args.search.now.pairs, λ e. e)

pub loop-row-preserved : goal.loop-row-preserved
loop-row-preserved c =
    let inv = c.loop-row.invariant in
    let t = c.try_row.ensures in
    let A = c.args.search.now.rows.matrix in
    let start = c.args.search.now.pairs in
    let old = c.loop-row.search.pairs in
    let new = c.try_row.new.self.pairs in
    let sound = subst (λ (m : ResidueMatrix). IsMatrix m.modulus m.matrix) c.rows-rows.ensures c.is_sound.ensures.entries in
    let next = subst (λ (m : ResidueMatrix). IsNextFilled m.matrix c.loop-row.from c.in-Some.row) c.rows-rows.ensures c.in-Some.ensures in (
      t.rows ∙ inv.0,
      omega (arith, next.below),
      λ left. greedy_more A start old new c.in-Some.row
          (greedy_past sound start old c.loop-row.from c.in-Some.row next.low (omega (arith, next.below)) next.between (inv.2 (c.is_spent.ensures.no c.if-is_spent.false)))
          (subst (λ (m : ResidueMatrix). IsTried m.matrix c.in-Some.row old new) inv.0 (t.tried left)),
      λ e. t.unbounded (inv.3 e),
    )

pub returns-clause-greedy : goal.returns-clause-greedy
returns-clause-greedy c = λ whole.
    let inv = c.loop-row.invariant in
    let A = c.args.search.now.rows.matrix in
    let sound = subst (λ (m : ResidueMatrix). IsMatrix m.modulus m.matrix) c.rows-rows.ensures c.is_sound.ensures.entries in
    let none = subst (λ (m : ResidueMatrix). AreZeroFrom m.matrix c.loop-row.from) c.rows-rows.ensures c.in_default.ensures in
    greedy_past sound c.args.search.now.pairs c.loop-row.search.pairs c.loop-row.from A.height inv.1 (omega arith) none (inv.2 (c.is_spent-2.ensures.no (not-true c.is_spent-2.result whole)))
