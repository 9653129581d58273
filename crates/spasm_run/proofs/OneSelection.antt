-- The selection of one worker is one list.
use Rattle.std.proofs.Common.{◌≡◌, ◌<◌, ℕ, List, length, get_or, sym, refl, ap₂, ◌∙◌, subst, arith}
use Rattle.std.specs.Prelude.{◌≤◌, All, Vec, [], ◌∷◌}
use Rattle.std.specs.declared.alloc.Global.{Global}
use Rattle.std.proofs.lemmas.List.{ext_get_or, get_or-map, get_or_default}
use Rattle.residue_words.specs.Matrix.{Matrix}
use Rattle.residue_words.specs.declared.plain.Pair.{Pair}
use Rattle.row_space.specs.Factors.{col_at}
use Rattle.row_space.proofs.Spans.{rising_equal}
use Rattle.sparse_rows.specs.Rows.{ResidueMatrix, LARGEST_SIZE}
use Rattle.pivot_table.specs.History.{pair}
use Rattle.pivot_table.specs.Greedy.{IsGreedy}
use Rattle.pivot_table.specs.Leftmost.{IsLeftmost, IsSparsest}
use Rattle.pivot_table.specs.Order.{IsTriangularOrder, Triangular}
use Rattle.pivot_table.specs.Selected.{IsGreedySelection, Selected}
use Rattle.pivot_table.proofs.Selecting.{greedy_one, sparsest_one}
use Rattle.spasm_run.specs.declared.command_answer.CommandAnswer.TheVariants as answer
use Rattle.spasm_words.specs.declared.command.Task.TheVariants as task
use Rattle.sms_text.specs.Written.{IsSmallPlace}
use Rattle.spasm_run.specs.Computed.{IsAnswerTo, asking}
use Rattle.spasm_run.specs.Contents.{matrices_alone}
use Rattle.spasm_words.specs.declared.command.Command.{Command}
use Rattle.triangular_solve.proofs.Listing.{col_is, no_pair, place_of, triangular_order_one}

-- the pair at place k of leftmost pairs is the sparsest of its column
sparsest_at : (A : Matrix) (qs : List Pair) (k : ℕ) → IsLeftmost A qs → k < length qs → IsSparsest A (get_or qs k no_pair).row (get_or qs k no_pair).col
sparsest_at A qs k is l = is.sparsest (get_or qs k no_pair) (k, l, get_or_default qs k (get_or qs k no_pair) no_pair l)

-- its column stands among those of other leftmost pairs
place_among : (A : Matrix) (qs rs : List Pair) (k : ℕ) → IsLeftmost A qs → IsLeftmost A rs → k < length qs → (t : ℕ) × (t < length rs) × (col_at qs k ≡ col_at rs t)
place_among A qs rs k a b l =
    let found = b.every (get_or qs k no_pair).row (get_or qs k no_pair).col (sparsest_at A qs k a l).begins in
    let place = place_of rs found.0 found.1 in
    (place.0, place.1, sym (col_is qs k l) ∙ sym found.2 ∙ sym place.3)

pub leftmost_one : (A : Matrix) (qs rs : List Pair) → IsLeftmost A qs → IsLeftmost A rs → qs ≡ rs
leftmost_one A qs rs a b =
    let same : (length qs ≡ length rs) × ((k : ℕ) → k < length qs → col_at qs k ≡ col_at rs k) =
    rising_equal (length qs) (length rs) (col_at qs) (col_at rs) a.ascending b.ascending (λ k l. place_among A qs rs k a b l) (λ k l. place_among A rs qs k b a l) in
    ext_get_or no_pair qs rs same.0 (λ k l.
    let m : k < length rs = omega (arith, same.0) in
    let cols : (get_or qs k no_pair).col ≡ (get_or rs k no_pair).col = col_is qs k l ∙ same.1 k l ∙ sym (col_is rs k m) in
    let other : IsSparsest A (get_or rs k no_pair).row (get_or qs k no_pair).col = subst (IsSparsest A (get_or rs k no_pair).row) (sym cols) (sparsest_at A rs k b m) in
    let rows : (get_or qs k no_pair).row ≡ (get_or rs k no_pair).row = sparsest_one A _ _ _ (sparsest_at A qs k a l) other in
    ap₂ pair rows cols)

pub selection_one : (A : Matrix) (qs rs : List Pair) → IsGreedySelection A qs → IsGreedySelection A rs → qs ≡ rs
selection_one A qs rs (first, all, l, g, o) (first', all', l', g', o') =
    let start : first' ≡ first = leftmost_one A first' first l' l in
    let greedy : IsGreedy A first all' = subst (λ f. IsGreedy A f all') start g' in
    let list : all' ≡ all = greedy_one A first all' all greedy g in
    triangular_order_one A all qs rs o (subst (λ h. IsTriangularOrder A h rs) list o')

-- ---- the pivots that are found are an answer

-- pairs that stand at entries have rows and columns that can be written
small_places : (A : Matrix) (qs : List Pair) → Triangular A qs → A.height ≤ LARGEST_SIZE → A.width ≤ LARGEST_SIZE → All IsSmallPlace qs
small_places A qs is high wide = λ k d l.
    let at = is.nonzero k l in (
      omega (arith, at.0, high, get_or-map (λ (q : Pair). q.row) qs k d 0 l),
      omega (arith, at.1, wide, get_or-map (λ (q : Pair). q.col) qs k d 0 l),
    )

pub pivots_answer : (a : ResidueMatrix) (c : Command) (pairs : Vec Pair Global) → Selected a.matrix c.workers pairs.items → a.matrix.height < LARGEST_SIZE → a.matrix.width < LARGEST_SIZE →
    IsAnswerTo (asking task.Pivots a.modulus c) (matrices_alone (a.matrix ∷ [])) (answer.Pivots pairs)
pivots_answer a c pairs selected high wide = record {
  small = small_places a.matrix pairs.items selected.triangular (omega arith) (omega arith);
  fits = refl;
  shape = tt;
  ends = refl;
  answers = λ any. (pairs.items, selected, refl);
}
