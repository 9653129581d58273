use Rattle.std.proofs.Common.{List, slice_index_or, subst, sym}
use Rattle.residue_words.specs.declared.plain.Pair.{Pair}
use Rattle.sparse_rows.specs.Rows.{ResidueMatrix}
use Rattle.pivot_table.specs.History.{HasCol, HasRow, Nonzero}
use Rattle.optimistic_search.proofs.Searching.{grown_at}
use Rattle.optimistic_search.proofs.by_walk.follow.Goals as goal

pub push-requires-clause-inside : goal.push-requires-clause-inside
push-requires-clause-inside c =
    let a = grown_at c.args.walk.now.rows.matrix c.args.pairs.now c.loop-k.k (record { row = 0; col = 0 }) c.requires.grown c.loop-k-test.true in
    subst (λ (m : ResidueMatrix). Nonzero m.matrix (slice_index_or c.args.pairs.now c.loop-k.k (record { row = 0; col = 0 })).row (slice_index_or c.args.pairs.now c.loop-k.k (record { row = 0; col = 0 })).col) (sym c.loop-k.invariant.0) a.entry

pub push-requires-clause-fresh_row : goal.push-requires-clause-fresh_row
push-requires-clause-fresh_row c =
    let a = grown_at c.args.walk.now.rows.matrix c.args.pairs.now c.loop-k.k (record { row = 0; col = 0 }) c.requires.grown c.loop-k-test.true in
    subst (λ (h : List Pair). ¬ HasRow h (slice_index_or c.args.pairs.now c.loop-k.k (record { row = 0; col = 0 })).row) (sym c.loop-k.invariant.1) a.fresh_row

pub push-requires-clause-fresh_col : goal.push-requires-clause-fresh_col
push-requires-clause-fresh_col c =
    let a = grown_at c.args.walk.now.rows.matrix c.args.pairs.now c.loop-k.k (record { row = 0; col = 0 }) c.requires.grown c.loop-k-test.true in
    subst (λ (h : List Pair). ¬ HasCol h (slice_index_or c.args.pairs.now c.loop-k.k (record { row = 0; col = 0 })).col) (sym c.loop-k.invariant.1) a.fresh_col
