use Rattle.std.proofs.Common.{◌<◌, ◌≡◌, ℕ, subst, sym, ◌∙◌, arith, slice_index}
use Rattle.std.specs.List.{Contains}
use Rattle.std.proofs.lemmas.List.{get_or_default}
use Rattle.pivot_table.specs.History.{HasCol, pair}
use Rattle.pivot_walks.specs.Indexed.{Indexed}
use Rattle.pivot_walks.proofs.Indexing.{found, not_found}
use Rattle.pivot_walks.proofs.indexed_pairs.IndexedPairs.find.Goals as goal

pub returns-then-row : goal.returns-then-row
returns-then-row c =
    let i = c.self.invariant in
    let l : c.args.c < c.self.inside.rows.now.matrix.width = subst (λ (w : Indexed). c.args.c < w.rows.matrix.width) (sym c.self.view_is) c.requires in
    let e : c.index-row.result.now ≡ slice_index c.self.inside.index.items c.args.c = c.index-row.ensures ∙ get_or_default c.self.inside.index.items c.args.c _ 0 (omega (arith, i.columns)) in
    subst (λ (w : Indexed). ¬ HasCol w.pairs c.args.c) c.self.view_is (not_found i c.args.c l (sym e ∙ c.if-row.true))

pub returns-else-row : goal.returns-else-row
returns-else-row c =
    let i = c.self.invariant in
    let l : c.args.c < c.self.inside.rows.now.matrix.width = subst (λ (w : Indexed). c.args.c < w.rows.matrix.width) (sym c.self.view_is) c.requires in
    let e : c.index-row.result.now ≡ slice_index c.self.inside.index.items c.args.c = c.index-row.ensures ∙ get_or_default c.self.inside.index.items c.args.c _ 0 (omega (arith, i.columns)) in
    subst (λ (w : Indexed). Contains w.pairs (pair c.index-row.result.now c.args.c) × (c.index-row.result.now < w.rows.matrix.height) × ((t : ℕ) → Contains w.pairs (pair t c.args.c) → t ≡ c.index-row.result.now)) c.self.view_is
    (found i c.args.c c.index-row.result.now l e c.if-row.false)
