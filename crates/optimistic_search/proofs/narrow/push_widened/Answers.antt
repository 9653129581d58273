use Rattle.std.proofs.Common.{ℕ, ◌≡◌, ◌∙◌, List, length, take, slice_index, slice_index_or, refl, ap, subst, sym, arith}
use Rattle.residue_words.specs.Matrix.{Matrix}
use Rattle.residue_words.specs.declared.plain.Pair.{Pair}
use Rattle.sparse_rows.specs.Rows.{ResidueMatrix}
use Rattle.pivot_table.specs.History.{pair, Alive, Grown}
use Rattle.optimistic_search.specs.Renamed.{renamed}
use Rattle.optimistic_search.proofs.Renaming.{narrow_of, next_widened, start_widened}
use Rattle.optimistic_search.proofs.Searching.{grown_at}
use Rattle.optimistic_search.proofs.narrow.push_widened.Goals as goal

pub loop-k-init : goal.loop-k-init
loop-k-init c =
    let f : ℕ → ℕ = slice_index c.args.columns.now in
    let found = c.args.narrow.now.pairs in
    let long : length c.pairs-k.result.now ≡ length c.args.book.now.pairs = ap length c.pairs-k.ensures.pairs in (
      refl,
      start_widened f found c.args.book.now.pairs c.requires.begins ∙ ap (λ n. renamed f (take n found)) (sym long),
      omega (arith, c.requires.room, long),
    )

pub bounds-columns-place : goal.bounds-columns-place
bounds-columns-place c =
    let N = c.args.narrow.now.rows.matrix in
    let grown = subst (Grown N) (sym c.pairs-pairs.ensures.pairs) c.pairs-pairs.ensures.grown in
    omega (arith, (grown_at N c.pairs-pairs.result.now c.loop-k.k (pair 0 0) grown c.loop-k-test.true).entry.1, ap (λ (M : Matrix). M.width) c.requires.matrix)

pub push-requires-clause-alive : goal.push-requires-clause-alive
push-requires-clause-alive c =
    let inv = c.loop-k.invariant in
    let f : ℕ → ℕ = slice_index c.args.columns.now in
    let N = c.args.narrow.now.rows.matrix in
    let pairs = c.pairs-pairs.result.now in
    let q : Pair = slice_index_or pairs c.loop-k.k (pair 0 0) in
    let grown = subst (Grown N) (sym c.pairs-pairs.ensures.pairs) c.pairs-pairs.ensures.grown in
    let same : c.loop-k.book.pairs ≡ renamed f (take c.loop-k.k pairs) = inv.1 ∙ ap (λ (h : List Pair). renamed f (take c.loop-k.k h)) (sym c.pairs-pairs.ensures.pairs) in
    subst (λ (m : ResidueMatrix). Alive m.matrix c.loop-k.book.pairs q.row (f q.col)) (sym inv.0)
    (subst (λ (h : List Pair). Alive c.args.book.now.rows.matrix h q.row (f q.col)) (sym same)
    (next_widened (narrow_of c.requires.enough c.requires.matrix) pairs c.loop-k.k (pair 0 0) grown c.loop-k-test.true))
