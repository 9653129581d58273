-- Rows whose columns stand in another order: the pairs of places and values, sorted, are the row.
use Rattle.std.proofs.Common.{ℕ, ◌≡◌, ◌≢◌, ◌+◌, ◌-◌, ◌<◌, ◌≤◌, inl, inr, List, [], ◌∷◌, ◌++◌, length, map, slice_index, slice_set, get_or, sym, refl, ap, ap₂, subst, ◌∙◌, arith}
use Rattle.std.specs.List.{All, Contains, range_with_len, swap}
use Rattle.std.specs.List.Sorted.{IsNonDecreasingBy, IsPermutation}
use Rattle.std.proofs.lemmas.Bool.{cases_eq, cases_lt}
use Rattle.std.proofs.lemmas.List.{get_or_default, get_or-map, get_or-set_other, get_or-set_same, length-map}
use Rattle.std.proofs.lemmas.List.Edits.{swapped_from_swap, length-swap}
use Rattle.std.proofs.lemmas.List.FromFn.{get_or-map-range_with_len, length-map-range_with_len, map-range_with_len_more}
use Rattle.std.proofs.lemmas.List.Sorted.{All-permutation, Contains-permutation, IsPermutation-keeps}
use Rattle.residue_words.specs.Matrix.{IsMatrix, IsVector, Matrix, entry, list_of, row}
use Rattle.residue_words.proofs.Lists.{place_in}
use Rattle.residue_words.proofs.Vectors.{entry_matrix_of, list_of_equal, row_matrix_of}
use Rattle.sparse_rows.specs.Rows.{AreDistinct, AreEnoughInSomeOrder, ResidueMatrix, narrowed, nonzeros, selected, support, transposed}
use Rattle.sparse_rows.specs.Stored.{IsSparse, entry_at, spread}
use Rattle.sparse_rows.proofs.Loops.{sized}
use Rattle.sparse_rows.proofs.Exchanging.{at_turned, turned, turned_back, turned_below}
use Rattle.sparse_rows.proofs.Spread.{entry_cover, entry_here, entry_support, map_range_equal, support_sparse}
use Rattle.weight_order.specs.Rearranged.{ArePlacesIn, paired}
use Rattle.weight_order.proofs.Selecting.{row_selected}

-- the first k columns have their places
abbrev pub ArePlacedSoFar : List ℕ → ℕ → List ℕ → Type 0
ArePlacedSoFar columns k places = (t : ℕ) → t < k → slice_index places (slice_index columns t) ≡ t

-- one more
pub placed_more : (columns places : List ℕ) (k : ℕ) → AreDistinct columns → k < length columns → slice_index columns k < length places → ArePlacedSoFar columns k places →
    ArePlacedSoFar columns (k + 1) (slice_set places (slice_index columns k) k)
placed_more columns places k distinct l inside h t b = elim (cases_lt t k) [
  | inl s ↦ get_or-set_other places (slice_index columns k) (slice_index columns t) k 0 (distinct t k s l) ∙ h t s
  | inr s ↦
      let e : t ≡ k = omega arith in
      ap (λ x. slice_index (slice_set places (slice_index columns k) k) (slice_index columns x)) e ∙ get_or-set_same places (slice_index columns k) k 0 inside ∙ sym e
]

abbrev none : ℕ × ℕ
none = (0, 0)

-- no two pairs have one place
abbrev Differ : List (ℕ × ℕ) → Type 0
Differ qs = (k t : ℕ) → k < length qs → t < length qs → k ≢ t → (get_or qs k none).0 ≢ (get_or qs t none).0

differ_swapped : (qs : List (ℕ × ℕ)) (a b : ℕ) → a < length qs → b < length qs → Differ qs → Differ (swap qs a b)
differ_swapped qs a b la lb h k t lk lt d e = h (turned a b k) (turned a b t) (low k lk) (low t lt)
    (λ f. d (sym (turned_back a b k) ∙ ap (turned a b) f ∙ turned_back a b t)) (ap (λ q. q.0) (sym (moved k)) ∙ e ∙ ap (λ q. q.0) (moved t))
  where
    moved : (i : ℕ) → get_or (swap qs a b) i none ≡ get_or qs (turned a b i) none
    moved = at_turned (λ i. get_or qs i none) (λ i. get_or (swap qs a b) i none) a b (swapped_from_swap qs (swap qs a b) a b none la lb refl)

    low : (i : ℕ) → i < length (swap qs a b) → turned a b i < length qs
    low i l = turned_below (length qs) a b i la lb (omega (arith, length-swap qs a b))

-- a row v of w residues, of which all entries stand at these columns, whose places are told
module _ {p w : ℕ} (v columns places : List ℕ) (h : IsVector p w v) (all : (j : ℕ) → j < w → slice_index v j ≢ 0 → Contains columns j)
    (below : (t : ℕ) → t < length columns → slice_index columns t < w) (at_place : ArePlacesIn columns places) where
  -- what a pair says
  abbrev IsEntry : ℕ × ℕ → Type 0
  IsEntry q = (q.0 < length columns) × (q.1 ≡ slice_index v (slice_index columns q.0)) × (0 < q.1)

  abbrev pairs : List (ℕ × ℕ)
  pairs = paired places (support v) (nonzeros v)

  sparse : IsSparse p w (support v) (nonzeros v)
  sparse = support_sparse h

  value_at : (k : ℕ) → k < length (support v) → slice_index v (slice_index (support v) k) ≡ slice_index (nonzeros v) k
  value_at k l = sym (entry_support v (slice_index (support v) k)) ∙ entry_here (support v) (nonzeros v) sparse.long sparse.rising k l

  positive : (k : ℕ) → k < length (support v) → 0 < slice_index (nonzeros v) k
  positive k l = sparse.positive k (omega (arith, sparse.long))

  long_pairs : length pairs ≡ length (support v)
  long_pairs = length-map-range_with_len (λ k. (slice_index places (slice_index (support v) k), slice_index (nonzeros v) k)) 0 (length (support v))

  pair_at : (k : ℕ) (d : ℕ × ℕ) → k < length (support v) → get_or pairs k d ≡ (slice_index places (slice_index (support v) k), slice_index (nonzeros v) k)
  pair_at k d l = get_or-map-range_with_len (λ k. (slice_index places (slice_index (support v) k), slice_index (nonzeros v) k)) 0 (length (support v)) k k d l (omega arith)

  -- each of the row's columns is one of these
  column_of : (k : ℕ) → k < length (support v) → (t : ℕ) × (t < length columns) × (slice_index columns t ≡ slice_index (support v) k)
  column_of k l = place_in columns (slice_index (support v) k) (all (slice_index (support v) k) (sparse.below k l) (λ e. omega (arith, value_at k l, positive k l)))

  place_is : (k : ℕ) (l : k < length (support v)) → slice_index places (slice_index (support v) k) ≡ (column_of k l).0
  place_is k l = let t = column_of k l in ap (slice_index places) (sym t.2) ∙ at_place t.0 t.1

  entries : All IsEntry pairs
  entries k d l =
      let low : k < length (support v) = omega (arith, long_pairs) in
      let t = column_of k low in
      subst IsEntry (sym (pair_at k d low)) (
        omega (arith, place_is k low, t.1),
        sym (value_at k low) ∙ ap (slice_index v) (sym t.2 ∙ ap (slice_index columns) (sym (place_is k low))),
        positive k low,
      )

  differ : Differ pairs
  differ k t lk lt d e =
      let a : k < length (support v) = omega (arith, long_pairs) in
      let b : t < length (support v) = omega (arith, long_pairs) in
      let places_same : slice_index places (slice_index (support v) k) ≡ slice_index places (slice_index (support v) t) =
      sym (ap (λ q. q.0) (pair_at k none a)) ∙ e ∙ ap (λ q. q.0) (pair_at t none b) in
      let same : slice_index (support v) k ≡ slice_index (support v) t =
      sym (column_of k a).2 ∙ ap (slice_index columns) (sym (place_is k a) ∙ places_same ∙ place_is t b) ∙ (column_of t b).2 in
      elim (cases_lt k t) [
        | inl s ↦ omega (arith, sparse.rising k t s b)
        | inr s ↦ omega (arith, sparse.rising t k (omega arith) a)
      ]

  module _ {sorted : List (ℕ × ℕ)} (moved : IsPermutation pairs sorted) (up : IsNonDecreasingBy (λ (q : ℕ × ℕ). q.0) sorted) where
    abbrev cols : List ℕ
    cols = map (λ (q : ℕ × ℕ). q.0) sorted

    abbrev vals : List ℕ
    vals = map (λ (q : ℕ × ℕ). q.1) sorted

    is_entry : (m : ℕ) → m < length sorted → IsEntry (get_or sorted m none)
    is_entry m l = All-permutation IsEntry pairs sorted moved entries m none l

    col_at : (m : ℕ) → m < length sorted → slice_index cols m ≡ (get_or sorted m none).0
    col_at m l = get_or-map (λ (q : ℕ × ℕ). q.0) sorted m none 0 l

    val_at : (m : ℕ) → m < length sorted → slice_index vals m ≡ (get_or sorted m none).1
    val_at m l = get_or-map (λ (q : ℕ × ℕ). q.1) sorted m none 0 l

    many_cols : length cols ≡ length sorted
    many_cols = length-map sorted (λ (q : ℕ × ℕ). q.0)

    many_vals : length vals ≡ length sorted
    many_vals = length-map sorted (λ (q : ℕ × ℕ). q.1)

    rising : (k t : ℕ) → k < t → t < length cols → slice_index cols k < slice_index cols t
    rising k t a l =
        let b : t < length sorted = omega (arith, many_cols) in
        let no_less : (get_or sorted k none).0 ≤ (get_or sorted t none).0 = up k t none (omega arith) b in
        let other : (get_or sorted k none).0 ≢ (get_or sorted t none).0 = IsPermutation-keeps pairs Differ differ differ_swapped sorted moved k t (omega arith) b (λ e. omega arith) in
        let apart : slice_index cols k ≢ slice_index cols t = λ e. other (sym (col_at k (omega arith)) ∙ e ∙ col_at t b) in
        elim (cases_lt (slice_index cols k) (slice_index cols t)) [
          | inl s ↦ s
          | inr s ↦ absurd (apart (omega (arith, col_at k (omega arith), col_at t b, no_less)))
        ]

    pub renamed_sparse : IsSparse p (length columns) cols vals
    renamed_sparse = record {
      long = many_cols ∙ sym many_vals;
      rising = rising;
      below = λ m l. let b : m < length sorted = omega (arith, many_cols) in omega (arith, col_at m b, (is_entry m b).0);
      positive = λ m l. let b : m < length sorted = omega (arith, many_vals) in omega (arith, val_at m b, (is_entry m b).2);
      residues = λ m l.
          let b : m < length sorted = omega (arith, many_vals) in
          let q : ℕ × ℕ = get_or sorted m none in
          omega (arith, val_at m b, (is_entry m b).1, h.residues (slice_index columns q.0) (below q.0 (is_entry m b).0));
    }

    -- the entry at a place that has one
    entry_there : (m t : ℕ) → m < length sorted → slice_index cols m ≡ t → entry_at cols vals t ≡ slice_index v (slice_index columns t)
    entry_there m t l e =
        ap (entry_at cols vals) (sym e) ∙ entry_here cols vals (many_cols ∙ sym many_vals) rising m (omega (arith, many_cols)) ∙ val_at m l ∙ (is_entry m l).1
        ∙ ap (λ x. slice_index v (slice_index columns x)) (sym (col_at m l) ∙ e)

    entry_renamed : (t : ℕ) → t < length columns → entry_at cols vals t ≡ slice_index v (slice_index columns t)
    entry_renamed t l = elim (entry_cover cols vals t) [
      | inr m ↦ entry_there m.0 t (omega (arith, m.1, many_cols)) m.2
      | inl z ↦ elim (cases_eq (slice_index v (slice_index columns t)) 0) [
        | inl e ↦ z ∙ sym e
        | inr d ↦
            let c : ℕ = slice_index columns t in
            let k = place_in (support v) c (in_row c d) in
            let is : get_or pairs k.0 none ≡ (t, slice_index (nonzeros v) k.0) =
            pair_at k.0 none k.1 ∙ ap (λ x. (x, slice_index (nonzeros v) k.0)) (ap (slice_index places) k.2 ∙ at_place t l) in
            let m = Contains-permutation pairs sorted (t, slice_index (nonzeros v) k.0) moved (k.0, omega (arith, k.1, long_pairs), pair_at k.0 (t, slice_index (nonzeros v) k.0) k.1 ∙ sym (pair_at k.0 none k.1) ∙ is) in
            entry_there m.0 t m.1 (col_at m.0 m.1 ∙ ap (λ q. q.0) (get_or_default sorted m.0 none (t, slice_index (nonzeros v) k.0) m.1 ∙ m.2))
      ]
    ]
      where
        in_row : (c : ℕ) → slice_index v c ≢ 0 → Contains (support v) c
        in_row c d = elim (entry_cover (support v) (nonzeros v) c) [
          | inl z ↦ absurd (d (sym (entry_support v c) ∙ z))
          | inr k ↦ (k.0, k.1, get_or_default (support v) k.0 c 0 k.1 ∙ k.2)
        ]

    pub renamed_row : spread (length columns) cols vals ≡ list_of (length columns) (λ t. slice_index v (slice_index columns t))
    unfolding spread
    renamed_row = list_of_equal (length columns) (entry_at cols vals) (λ t. slice_index v (slice_index columns t)) entry_renamed

-- a row of a matrix, as it is read, paired, sorted and parted
pub row_renamed : (R : ResidueMatrix) (columns places : List ℕ) → IsMatrix R.modulus R.matrix → AreEnoughInSomeOrder R.matrix columns → ArePlacesIn columns places → (i : ℕ) → i < R.matrix.height →
    {cs vs ps us ws : List ℕ} {pairs sorted : List (ℕ × ℕ)} → cs ≡ support (row R.matrix i) → vs ≡ nonzeros (row R.matrix i) → ps ≡ places → pairs ≡ paired ps cs vs →
    IsPermutation pairs sorted → IsNonDecreasingBy (λ (q : ℕ × ℕ). q.0) sorted → us ≡ map (λ (q : ℕ × ℕ). q.0) sorted → ws ≡ map (λ (q : ℕ × ℕ). q.1) sorted →
    IsSparse R.modulus (length columns) us ws × (spread (length columns) us ws ≡ row (narrowed R.matrix columns) i)
row_renamed R columns places m enough at_place i l {cs} {vs} {ps} {us} {ws} {pairs} {sorted} ec ev ep eq moved up eu ew =
    let A : Matrix = R.matrix in
    let all : (j : ℕ) → j < A.width → entry A i j ≢ 0 → Contains columns j = λ j b d. enough.all i j l b d in
    let read : pairs ≡ paired places (support (row A i)) (nonzeros (row A i)) = eq ∙ ap (λ p. paired p cs vs) ep ∙ ap₂ (paired places) ec ev in
    let turned : IsPermutation (paired places (support (row A i)) (nonzeros (row A i))) sorted = subst (λ qs. IsPermutation qs sorted) read moved in
    rw (eu, ew) (
      renamed_sparse (row A i) columns places (m.each i l) all enough.below at_place turned up,
      renamed_row (row A i) columns places (m.each i l) all enough.below at_place turned up
          ∙ sym (row_matrix_of A.height (length columns) (λ i k. entry A i (slice_index columns k)) i l),
    )

-- the columns picked of the transpose, turned back
pub narrowed_turned : (A : Matrix) (columns : List ℕ) → ((t : ℕ) → t < length columns → slice_index columns t < A.width) →
    transposed (selected (transposed A) columns) ≡ narrowed A columns
narrowed_turned A columns below =
    let n : ℕ = length columns in
    ap (sized A.height n) (map_range_equal (λ i. list_of n (λ k. entry (selected (transposed A) columns) k i)) (λ i. list_of n (λ k. entry A i (slice_index columns k))) 0 A.height (λ i a l.
    list_of_equal n (λ k. entry (selected (transposed A) columns) k i) (λ k. entry A i (slice_index columns k)) (λ k b.
    ap (λ r. slice_index r i) (row_selected (transposed A) columns k b)
    ∙ entry_matrix_of A.width A.height (λ j i. entry A i j) (slice_index columns k) i (below k b) (omega arith))))

-- the first k pairs
abbrev pub paired_until : List ℕ → List ℕ → List ℕ → ℕ → List (ℕ × ℕ)
paired_until places cols vals k = map (λ k. (slice_index places (slice_index cols k), slice_index vals k)) (range_with_len 0 k)

-- one more
pub paired_more : {pairs more : List (ℕ × ℕ)} (places cols vals : List ℕ) (k : ℕ) (q : ℕ × ℕ) → pairs ≡ paired_until places cols vals k →
    q ≡ (slice_index places (slice_index cols k), slice_index vals k) → more ≡ pairs ++ q ∷ [] → more ≡ paired_until places cols vals (k + 1)
paired_more {pairs} {more} places cols vals k q so_far is e =
    e ∙ ap₂ (λ qs x. qs ++ x ∷ []) so_far is ∙ sym (map-range_with_len_more (λ k. (slice_index places (slice_index cols k), slice_index vals k)) 0 k k (omega arith))
