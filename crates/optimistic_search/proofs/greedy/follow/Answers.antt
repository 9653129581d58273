use Rattle.std.proofs.Common.{◌≡◌, take, slice_index_or, subst, sym}
use Rattle.pivot_table.specs.History.{Alive, Grown}
use Rattle.pivot_walks.specs.Levels.{Leveled}
use Rattle.optimistic_search.proofs.Searching.{grown_at, grown_front}
use Rattle.optimistic_search.proofs.greedy.follow.Goals as goal

pub push-requires-clause-grown : goal.push-requires-clause-grown
push-requires-clause-grown c =
    let same : c.loop-k.walk ≡ record { rows = c.args.walk.now.rows; pairs = take c.loop-k.k c.args.pairs.now; left = c.loop-k.walk.left } = λ i. record { rows = c.loop-k.invariant.0 i; pairs = c.loop-k.invariant.1 i; left = c.loop-k.walk.left } in
    subst (λ (w : Leveled). Grown w.rows.matrix w.pairs) (sym same) (grown_front c.args.walk.now.rows.matrix c.args.pairs.now c.loop-k.k c.requires.grown)

pub push-requires-clause-alive : goal.push-requires-clause-alive
push-requires-clause-alive c =
    let same : c.loop-k.walk ≡ record { rows = c.args.walk.now.rows; pairs = take c.loop-k.k c.args.pairs.now; left = c.loop-k.walk.left } = λ i. record { rows = c.loop-k.invariant.0 i; pairs = c.loop-k.invariant.1 i; left = c.loop-k.walk.left } in
    let q = slice_index_or c.args.pairs.now c.loop-k.k (record { row = 0; col = 0 }) in
    subst (λ (w : Leveled). Alive w.rows.matrix w.pairs q.row q.col) (sym same) (grown_at c.args.walk.now.rows.matrix c.args.pairs.now c.loop-k.k (record { row = 0; col = 0 }) c.requires.grown c.loop-k-test.true)
