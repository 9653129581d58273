use Rattle.std.proofs.Common.{◌≡◌, ℕ, ◌+◌, List, get_or, take, set, ap, sym, subst, ◌∙◌, length-set, arith}
use Rattle.residue_words.specs.Matrix.{Matrix}
use Rattle.residue_words.specs.declared.plain.Pair.{Pair}
use Rattle.sparse_rows.specs.Rows.{ResidueMatrix}
use Rattle.pivot_table.specs.History.{pair, Grown}
use Rattle.pivot_table.specs.Core.{opening_marks}
use Rattle.pivot_table.specs.Rule.{Spells, rows_at, pair_word}
use Rattle.pivot_table.proofs.Short.{grown_short}
use Rattle.pivot_table.proofs.Spellings.{spells_start, spells_next, pair_low}
use Rattle.pivot_table.proofs.board_words.spell.Goals as goal

pub loop-k-init : goal.loop-k-init
loop-k-init c = let A = c.args.book.now.rows.matrix in subst (λ (ws : List ℕ). Spells A ws (take 0 c.pairs-pairs.result.now) (opening_marks A (take 0 c.pairs-pairs.result.now))) (sym c.requires) (spells_start A)

pub word_of_pair-requires : goal.word_of_pair-requires
word_of_pair-requires c =
    let A : Matrix = c.args.book.now.rows.matrix in
    let h : List Pair = c.pairs-pairs.result.now in
    let g : Grown A h = subst (λ (l : List Pair). Grown A l) (sym c.pairs-pairs.ensures.pairs) c.pairs-pairs.ensures.grown in
    let low = (pair_low A h g c.loop-k.k (pair 0 0) c.loop-k-test.true).0 in
    let eh : c.height.result ≡ A.height = c.height.ensures.value ∙ ap (λ (r : ResidueMatrix). r.matrix.height) c.rows-rows.ensures in
    let bound = c.height.ensures.bound in
    omega arith

pub bounds-words-k : goal.bounds-words-k
bounds-words-k c =
    let A : Matrix = c.args.book.now.rows.matrix in
    let h : List Pair = c.pairs-pairs.result.now in
    let g : Grown A h = subst (λ (l : List Pair). Grown A l) (sym c.pairs-pairs.ensures.pairs) c.pairs-pairs.ensures.grown in
    let most = grown_short A h g in
    let size = c.loop-k.invariant.size in
    omega arith

pub bounds-words-first : goal.bounds-words-first
bounds-words-first c =
    let A : Matrix = c.args.book.now.rows.matrix in
    let h : List Pair = c.pairs-pairs.result.now in
    let g : Grown A h = subst (λ (l : List Pair). Grown A l) (sym c.pairs-pairs.ensures.pairs) c.pairs-pairs.ensures.grown in
    let low = (pair_low A h g c.loop-k.k (pair 0 0) c.loop-k-test.true).0 in
    let eh : c.height.result ≡ A.height = c.height.ensures.value ∙ ap (λ (r : ResidueMatrix). r.matrix.height) c.rows-rows.ensures in
    let ew : c.width.result ≡ A.width = c.width.ensures.value ∙ ap (λ (r : ResidueMatrix). r.matrix.width) c.rows-rows.ensures in
    let first : c.min.result + 1 ≡ rows_at A = let e = c.min.ensures in omega arith in
    let size = c.loop-k.invariant.size in
    omega (arith, length-set {A = ℕ})

pub loop-k-preserved : goal.loop-k-preserved
loop-k-preserved c =
    let A : Matrix = c.args.book.now.rows.matrix in
    let h : List Pair = c.pairs-pairs.result.now in
    let g : Grown A h = subst (λ (l : List Pair). Grown A l) (sym c.pairs-pairs.ensures.pairs) c.pairs-pairs.ensures.grown in
    let k : ℕ = c.loop-k.k in
    let q : Pair = get_or h k (pair 0 0) in
    let eh : c.height.result ≡ A.height = c.height.ensures.value ∙ ap (λ (r : ResidueMatrix). r.matrix.height) c.rows-rows.ensures in
    let ew : c.width.result ≡ A.width = c.width.ensures.value ∙ ap (λ (r : ResidueMatrix). r.matrix.width) c.rows-rows.ensures in
    let first : c.min.result + 1 ≡ rows_at A = let e = c.min.ensures in omega arith in
    subst (λ (w : ℕ). Spells A (set (set c.loop-k.words k w) (c.min.result + 1 + q.row) 2) (take (k + 1) h) (opening_marks A (take (k + 1) h))) (sym c.word_of_pair.ensures)
    (subst (λ (f : ℕ). Spells A (set (set c.loop-k.words k (pair_word q)) (f + q.row) 2) (take (k + 1) h) (opening_marks A (take (k + 1) h))) (sym first)
    (spells_next A h g k (pair 0 0) c.loop-k-test.true c.loop-k.words c.loop-k.invariant))
