-- Rows whose entries are moved: at column j stands the entry that had the number of j.
use Rattle.std.proofs.Common.{ℕ, suc, ◌≡◌, ◌+◌, ◌*◌, ◌%◌, ◌<◌, ◌≤◌, ◌⊎◌, inl, inr, List, [], ◌∷◌, length, map, slice_index, slice_index_or, sym, refl, ap, ap₂, subst, ◌∙◌, arith, mul-zero}
use native.Mathlib.Nat.{zero-mod}
use Rattle.std.proofs.lemmas.Bool.{cases_lt}
use Rattle.std.proofs.lemmas.List.{get_or_past, get_or-map, length-map, map-append}
use Rattle.residue_words.specs.Residues.{sum_below}
use Rattle.residue_words.specs.Matrix.{Matrix, IsCombination, IsMatrix, IsVector, combine, entry, list_of, row, zeros}
use Rattle.residue_words.proofs.Sums.{sum_equal, sum_zero}
use Rattle.residue_words.proofs.Vectors.{at_combine, at_list_of, at_zeros, combine_vector, list_of_equal, vector_equal, vector_of, zeros_vector}
use Rattle.row_space.specs.Echelon.{IsIndependent, SameSpan}
use Rattle.sparse_rows.specs.Stored.{with_row}

abbrev pub moved_row : ℕ → (ℕ → ℕ) → List ℕ → List ℕ
moved_row n number v = list_of n (λ j. slice_index v (number j))

abbrev pub moved : ℕ → (ℕ → ℕ) → Matrix → Matrix
moved n number A = record { height = A.height; width = n; rows = map (moved_row n number) A.rows }

-- behind its end a vector is 0
beyond : {p n : ℕ} {v : List ℕ} → IsVector p n v → (j : ℕ) → n ≤ j → slice_index v j ≡ 0
beyond {p} {n} {v} h j le = get_or_past v j 0 (omega (arith, h.len))

module _ (n : ℕ) (number : ℕ → ℕ) where
  -- the row at i is moved
  pub row_moved : (A : Matrix) (i : ℕ) → i < length A.rows → row (moved n number A) i ≡ moved_row n number (row A i)
  row_moved A i l = get_or-map (moved_row n number) A.rows i [] [] l

  pub entry_moved : (A : Matrix) (i j : ℕ) → i < length A.rows → j < n → entry (moved n number A) i j ≡ entry A i (number j)
  entry_moved A i j l lj = ap (λ v. slice_index v j) (row_moved A i l) ∙ at_list_of n (λ j. slice_index (row A i) (number j)) j lj

  pub moved_vector : {p m : ℕ} {v : List ℕ} → 0 < p → IsVector p m v → IsVector p n (moved_row n number v)
  moved_vector {p} {m} {v} pos h = vector_of p n (λ j. slice_index v (number j)) (λ j l.
      elim (cases_lt (number j) m) [ inl less ↦ h.residues (number j) less | inr le ↦ subst (λ x. x < p) (sym (beyond h (number j) le)) pos ])

  pub moved_matrix : {p : ℕ} {A : Matrix} → 0 < p → IsMatrix p A → IsMatrix p (moved n number A)
  moved_matrix {p} {A} pos h = record {
    len = length-map A.rows (moved_row n number) ∙ h.len;
    each = λ i l. subst (IsVector p n) (sym (row_moved A i (omega (arith, h.len)))) (moved_vector pos (h.each i l));
  }

  -- a combination of moved rows is the moved combination
  moved_combination : {p : ℕ} {A : Matrix} (y : List ℕ) → 0 < p → IsMatrix p A → combine p y (moved n number A) ≡ moved_row n number (combine p y A)
  moved_combination {p} {A} y pos h = list_of_equal n
      (λ j. sum_below A.height (λ i. slice_index y i * entry (moved n number A) i j) % p) (λ j. slice_index (combine p y A) (number j)) (λ j l.
      ap (λ s. s % p) (sum_equal A.height (λ i. slice_index y i * entry (moved n number A) i j) (λ i. slice_index y i * entry A i (number j))
      (λ i li. ap (λ x. slice_index y i * x) (entry_moved A i j (omega (arith, h.len)) l)))
      ∙ elim (cases_lt (number j) A.width) [
        | inl less ↦ sym (at_combine p y A (number j) less)
        | inr le ↦ ap (λ s. s % p) (sum_zero A.height (λ i. slice_index y i * entry A i (number j)) (λ i li.
            ap (λ x. slice_index y i * x) (beyond (h.each i li) (number j) le) ∙ mul-zero (slice_index y i)))
            ∙ zero-mod p ∙ sym (beyond (combine_vector p y A pos) (number j) le)
      ])

  moved_within : {p : ℕ} {A B : Matrix} → 0 < p → IsMatrix p A → IsMatrix p B → ((v : List ℕ) → IsCombination p A v → IsCombination p B v) →
      (v : List ℕ) → IsCombination p (moved n number A) v → IsCombination p (moved n number B) v
  moved_within {p} {A} {B} pos ma mb within v c =
      let y : List ℕ = c.0 in
      let inner = within (combine p y A) (y, c.1, refl) in
      (inner.0, inner.1, c.2 ∙ moved_combination y pos ma ∙ ap (moved_row n number) inner.2 ∙ sym (moved_combination inner.0 pos mb))

  -- rows of one row space are moved to rows of one
  pub moved_span : {p : ℕ} {A B : Matrix} → 0 < p → IsMatrix p A → IsMatrix p B → SameSpan p A B → SameSpan p (moved n number A) (moved n number B)
  moved_span {p} {A} {B} pos ma mb same v = (moved_within pos ma mb (λ u. (same u).0) v, moved_within pos mb ma (λ u. (same u).1) v)

  pub moved_more : (A : Matrix) (v : List ℕ) → moved n number (with_row A v) ≡ with_row (moved n number A) (moved_row n number v)
  moved_more A v = ap (λ rows. record { height = A.height + 1; width = n; rows = rows }) (map-append (moved_row n number) A.rows (v ∷ []))

  pub combination_there : {p : ℕ} {A : Matrix} {v : List ℕ} → 0 < p → IsMatrix p A → IsCombination p A v → IsCombination p (moved n number A) (moved_row n number v)
  combination_there pos m c = (c.0, c.1, ap (moved_row n number) c.2 ∙ sym (moved_combination c.0 pos m))

  -- a combination is 0 wherever all rows are moved from beyond their ends
  pub combination_beyond : {p : ℕ} {A : Matrix} {v : List ℕ} → 0 < p → IsMatrix p A → IsCombination p (moved n number A) v → (j : ℕ) → j < n → A.width ≤ number j → slice_index v j ≡ 0
  combination_beyond {p} {A} {v} pos m c j l le =
      ap (λ u. slice_index u j) (c.2 ∙ moved_combination c.0 pos m) ∙ at_list_of n (λ j. slice_index (combine p c.0 A) (number j)) j l
      ∙ beyond (combine_vector p c.0 A pos) (number j) le

-- Each place of the rows that isn't unused is the number of a column.
module _ (n : ℕ) (number : ℕ → ℕ) (width : ℕ) (Unused : ℕ → Type 0)
    (named : (s : ℕ) → s < width → ((j : ℕ) × (j < n) × (number j ≡ s)) ⊎ Unused s) where
  -- so rows are told from each other where they are moved to
  row_back : {p : ℕ} (u v : List ℕ) → IsVector p width u → IsVector p width v → ((s : ℕ) → s < width → Unused s → slice_index u s ≡ 0) → ((s : ℕ) → s < width → Unused s → slice_index v s ≡ 0) →
      moved_row n number u ≡ moved_row n number v → u ≡ v
  row_back {p} u v hu hv zu zv e = vector_equal p width u v hu hv (λ s l. elim (named s l) [
    | inl w ↦
        ap (slice_index u) (sym w.2) ∙ sym (at_list_of n (λ j. slice_index u (number j)) w.0 w.1)
        ∙ ap (λ x. slice_index x w.0) e ∙ at_list_of n (λ j. slice_index v (number j)) w.0 w.1 ∙ ap (slice_index v) w.2
    | inr off ↦ zu s l off ∙ sym (zv s l off)
  ])

  module _ {p : ℕ} {A : Matrix} (pos : 0 < p) (m : IsMatrix p A) (wide : A.width ≡ width) (zero : (i s : ℕ) → i < A.height → Unused s → entry A i s ≡ 0) where
    -- a combination is 0 where all rows are
    combination_zero : (y : List ℕ) (s : ℕ) → s < width → Unused s → slice_index (combine p y A) s ≡ 0
    combination_zero y s l off =
        at_combine p y A s (omega (arith, wide))
        ∙ ap (λ t. t % p) (sum_zero A.height (λ i. slice_index y i * entry A i s) (λ i li. ap (λ x. slice_index y i * x) (zero i s li off) ∙ mul-zero (slice_index y i))) ∙ zero-mod p

    own : (y : List ℕ) → IsVector p width (combine p y A)
    own y = subst (λ k. IsVector p k (combine p y A)) wide (combine_vector p y A pos)

    pub combination_back : {v : List ℕ} → IsVector p width v → ((s : ℕ) → s < width → Unused s → slice_index v s ≡ 0) →
        IsCombination p (moved n number A) (moved_row n number v) → IsCombination p A v
    combination_back {v} vector off c =
        (c.0, c.1, row_back v (combine p c.0 A) vector (own c.0) off (combination_zero c.0) (c.2 ∙ moved_combination n number c.0 pos m))

    -- independent rows stay so
    pub moved_independent : IsIndependent p A → IsIndependent p (moved n number A)
    moved_independent free y vector none =
        free y vector (row_back (combine p y A) (zeros A.width) (own y) (subst (λ k. IsVector p k (zeros A.width)) wide (zeros_vector p A.width pos)) (combination_zero y)
        (λ s l off. at_zeros A.width s (omega (arith, wide)))
        (sym (moved_combination n number y pos m) ∙ none
        ∙ list_of_equal n (λ j. 0) (λ j. slice_index (zeros A.width) (number j)) (λ j l. elim (cases_lt (number j) A.width) [
          | inl less ↦ sym (at_zeros A.width (number j) less)
          | inr le ↦ sym (beyond (zeros_vector p A.width pos) (number j) le)
        ])))

-- rows that are moved alike
pub map_equal : (f g : List ℕ → List ℕ) (rows : List (List ℕ)) → ((k : ℕ) → k < length rows → f (slice_index_or rows k []) ≡ g (slice_index_or rows k [])) → map f rows ≡ map g rows
map_equal f g [] h = refl
map_equal f g (r ∷ rows) h = ap₂ ◌∷◌ (h 0 (omega arith)) (map_equal f g rows (λ k l. h (suc k) (omega arith)))
