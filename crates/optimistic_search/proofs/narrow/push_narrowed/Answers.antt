use Rattle.std.proofs.Common.{ℕ, ◌≡◌, ◌+◌, ◌<◌, ◌∙◌, take, slice_index, slice_index_or, ap, subst, sym, arith}
use Rattle.residue_words.specs.Matrix.{Matrix}
use Rattle.sparse_rows.specs.Rows.{ResidueMatrix}
use Rattle.pivot_table.specs.History.{pair, Alive, Grown}
use Rattle.optimistic_search.specs.Renamed.{AreInside, renamed}
use Rattle.optimistic_search.proofs.Renaming.{column_among, inside_more, more_narrowed, narrow_of, next_narrowed}
use Rattle.optimistic_search.proofs.narrow.push_narrowed.Goals as goal

pub place_among-col-requires-clause-among : goal.place_among-col-requires-clause-among
place_among-col-requires-clause-among c =
    let grown = subst (Grown c.args.book.now.rows.matrix) (sym c.pairs-pairs.ensures.pairs) c.pairs-pairs.ensures.grown in
    column_among c.pairs-pairs.result.now c.loop-k.k (pair 0 0) c.requires.enough grown c.loop-k-test.true

pub push-requires-clause-alive : goal.push-requires-clause-alive
push-requires-clause-alive c =
    let inv = c.loop-k.invariant in
    let pairs = c.pairs-pairs.result.now in
    let grown = subst (Grown c.args.book.now.rows.matrix) (sym c.pairs-pairs.ensures.pairs) c.pairs-pairs.ensures.grown in
    let same : renamed (slice_index c.args.columns.now) c.loop-k.narrow.pairs ≡ take c.loop-k.k pairs = inv.1 ∙ ap (take c.loop-k.k) (sym c.pairs-pairs.ensures.pairs) in
    let below : c.place_among-col.result < c.args.narrow.now.rows.matrix.width = omega (arith, c.place_among-col.ensures.inside, ap (λ (M : Matrix). M.width) c.requires.matrix) in
    subst (λ (m : ResidueMatrix). Alive m.matrix c.loop-k.narrow.pairs (slice_index_or pairs c.loop-k.k (pair 0 0)).row c.place_among-col.result) (sym inv.0)
    (next_narrowed (narrow_of c.requires.enough c.requires.matrix) c.loop-k.narrow.pairs pairs c.loop-k.k c.place_among-col.result (pair 0 0) inv.3 same grown c.loop-k-test.true below c.place_among-col.ensures.there)

pub loop-k-preserved : goal.loop-k-preserved
loop-k-preserved c =
    let inv = c.loop-k.invariant in
    let pairs = c.pairs-pairs.result.now in
    let f : ℕ → ℕ = slice_index c.args.columns.now in
    let same : renamed f c.loop-k.narrow.pairs ≡ take c.loop-k.k pairs = inv.1 ∙ ap (take c.loop-k.k) (sym c.pairs-pairs.ensures.pairs) in
    let below : c.place_among-col.result < c.args.narrow.now.rows.matrix.width = omega (arith, c.place_among-col.ensures.inside, ap (λ (M : Matrix). M.width) c.requires.matrix) in (
      c.push.ensures.rows ∙ inv.0,
      ap (renamed f) c.push.ensures.pairs
          ∙ more_narrowed f c.loop-k.narrow.pairs pairs c.loop-k.k c.place_among-col.result (pair 0 0) same c.loop-k-test.true c.place_among-col.ensures.there
          ∙ ap (take (c.loop-k.k + 1)) c.pairs-pairs.ensures.pairs,
      omega (arith, inv.2, c.push.ensures.spare),
      subst (AreInside c.args.narrow.now.rows.matrix.width) (sym c.push.ensures.pairs)
          (inside_more (narrow_of c.requires.enough c.requires.matrix) c.loop-k.narrow.pairs (pair (slice_index_or pairs c.loop-k.k (pair 0 0)).row c.place_among-col.result) inv.3 below),
    )
