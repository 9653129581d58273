-- A dense row that is filled from a sparse one.
use Rattle.std.proofs.Common.{ℕ, zero, suc, ◌≡◌, ◌≢◌, ◌+◌, ◌-◌, ◌<◌, ◌≤◌, inl, inr, List, [], ◌∷◌, ◌++◌, length, slice_index, slice_set, take, sym, ap, ap₂, ◌∙◌, arith}
use Rattle.std.proofs.lemmas.Bool.{cases_eq, cases_lt}
use Rattle.std.proofs.lemmas.List.{get_or-set_same, get_or-set_other, get_or-take, length-take, take_all, take_more}
use Rattle.residue_words.specs.Matrix.{Matrix, IsVector, entry, row, zeros}
use Rattle.residue_words.proofs.Vectors.{at_zeros}
use Rattle.sparse_rows.specs.Rows.{AreOccupied, AreRising, nonzeros, support}
use Rattle.sparse_rows.specs.Stored.{entry_at}
use Rattle.sparse_rows.proofs.Rising.{rising_order}
use Rattle.sparse_rows.proofs.Spread.{entry_here, entry_push_other, entry_push_same, entry_support}
use Rattle.dense_rows.proofs.Indexing.{stands_at}
use Rattle.dense_rows.proofs.TakingOut.{vector_set}

-- the first k entries stand in the row
pub record IsFilling (p : ℕ) (names cols vals : List ℕ) (k : ℕ) (v : List ℕ) : Type 0 where
  pub vector : IsVector p (length names) v
  pub entries : (j : ℕ) → j < length names → slice_index v j ≡ entry_at (take k cols) (take k vals) (slice_index names j)

pub filling_none : {p : ℕ} (names cols vals : List ℕ) {v : List ℕ} → IsVector p (length names) v → v ≡ zeros (length names) → IsFilling p names cols vals 0 v
filling_none {p} names cols vals {v} vector is = record {
  vector = vector;
  entries = λ j l. ap (λ u. slice_index u j) is ∙ at_zeros (length names) j l;
}

-- one entry more, at the name that is its column
pub filling_more : {p : ℕ} {names cols vals : List ℕ} {k : ℕ} {v : List ℕ} (j : ℕ) → length vals ≡ length cols → k < length cols →
    ((s t : ℕ) → s < t → t < length cols → slice_index cols s < slice_index cols t) → ((s t : ℕ) → s < t → t < length names → slice_index names s < slice_index names t) →
    slice_index vals k < p → j < length names → slice_index names j ≡ slice_index cols k → IsFilling p names cols vals k v →
    IsFilling p names cols vals (k + 1) (slice_set v j (slice_index vals k))
filling_more {p} {names} {cols} {vals} {k} {v} j same l ascending rising small inside at h = record {
  vector = vector_set j (slice_index vals k) small h.vector;
  entries = λ t lt. elim (cases_eq t j) [
    | inl e ↦
        ap (slice_index (slice_set v j (slice_index vals k))) e ∙ get_or-set_same v j (slice_index vals k) 0 (omega (arith, h.vector.len))
        ∙ sym (longer (slice_index names t) ∙ ap (λ x. entry_at (take k cols ++ slice_index cols k ∷ []) (take k vals ++ slice_index vals k ∷ []) x) (ap (slice_index names) e ∙ at)
        ∙ entry_push_same (take k cols) (take k vals) (slice_index cols k) (slice_index vals k) even
        (λ s ls. let low : s < k = omega (arith, length-take k cols) in omega (arith, get_or-take k cols s 0 low, ascending s k low l)))
    | inr d ↦
        get_or-set_other v j t (slice_index vals k) 0 d ∙ h.entries t lt
        ∙ sym (longer (slice_index names t) ∙ entry_push_other (take k cols) (take k vals) (slice_index cols k) (slice_index vals k) (slice_index names t) even (λ hit. apart t lt d (sym hit ∙ sym at)))
  ];
}
  where
    even : length (take k cols) ≡ length (take k vals)
    even = omega (arith, length-take k cols, length-take k vals)

    longer : (x : ℕ) → entry_at (take (k + 1) cols) (take (k + 1) vals) x ≡ entry_at (take k cols ++ slice_index cols k ∷ []) (take k vals ++ slice_index vals k ∷ []) x
    longer x = ap₂ (λ cs vs. entry_at cs vs x) (take_more cols k 0 l) (take_more vals k 0 (omega arith))

    apart : (t : ℕ) → t < length names → t ≢ j → slice_index names t ≡ slice_index names j → ⊥
    apart t lt d e = elim (cases_lt t j) [
      | inl less ↦ omega (arith, rising t j less inside)
      | inr more ↦ omega (arith, rising j t (omega arith) lt)
    ]

pub filling_all : {p : ℕ} {names cols vals : List ℕ} {k : ℕ} {v : List ℕ} → length vals ≡ length cols → length cols ≤ k → IsFilling p names cols vals k v →
    (j : ℕ) → j < length names → slice_index v j ≡ entry_at cols vals (slice_index names j)
filling_all {p} {names} {cols} {vals} {k} {v} same le h j l =
    h.entries j l ∙ ap₂ (λ cs vs. entry_at cs vs (slice_index names j)) (take_all k cols le) (take_all k vals (omega arith))

-- each column of a row is one of the occupied ones
pub column_known : (A : Matrix) (columns : List ℕ) (i : ℕ) → AreOccupied A columns → i < A.height → (cols vals : List ℕ) → cols ≡ support (row A i) → vals ≡ nonzeros (row A i) →
    length cols ≡ length vals → ((s t : ℕ) → s < t → t < length cols → slice_index cols s < slice_index cols t) → ((k : ℕ) → k < length vals → 0 < slice_index vals k) →
    ((k : ℕ) → k < length cols → slice_index cols k < A.width) → (k : ℕ) → k < length cols → (j : ℕ) × (j < length columns) × (slice_index columns j ≡ slice_index cols k)
column_known A columns i h li cols vals cols-is vals-is even ascending positive below k l =
    let value : entry A i (slice_index cols k) ≡ slice_index vals k =
    sym (entry_support (row A i) (slice_index cols k)) ∙ ap₂ (λ cs vs. entry_at cs vs (slice_index cols k)) (sym cols-is) (sym vals-is) ∙ entry_here cols vals even ascending k l in
    stands_at columns (slice_index cols k) (h.enough.all i (slice_index cols k) li (below k l) (λ z. omega (arith, positive k (omega arith))))

-- a row whose columns stand among the names, and which has as many
module _ (names cols : List ℕ) (full : length cols ≡ length names) (ascending : AreRising cols) (rising : AreRising names)
    (known : (k : ℕ) → k < length cols → (j : ℕ) × (j < length names) × (slice_index names j ≡ slice_index cols k)) where
  at_least : (k j : ℕ) → k < length cols → j < length names → slice_index names j ≡ slice_index cols k → k ≤ j
  at_least zero j l inside at = omega arith
  at_least (suc k) j l inside at =
      let w = known k (omega arith) in
      let less : w.0 < j = rising_order names rising w.0 j w.1 inside (omega (arith, w.2, at, ascending k (suc k) (omega arith) l)) in
      omega (arith, at_least k w.0 (omega arith) w.1 w.2, less)

  at_most : (rest k j : ℕ) → k + rest + 1 ≡ length cols → j < length names → slice_index names j ≡ slice_index cols k → j ≤ k
  at_most zero k j e inside at = omega arith
  at_most (suc rest) k j e inside at =
      let l : k + 1 < length cols = omega arith in
      let w = known (k + 1) l in
      let less : j < w.0 = rising_order names rising j w.0 inside w.1 (omega (arith, w.2, at, ascending k (k + 1) (omega arith) l)) in
      omega (arith, at_most rest (k + 1) w.0 (omega arith) w.1 w.2, less)

  -- so it has an entry at each of them, in order
  pub full_entries : (vals : List ℕ) → length vals ≡ length cols → (j : ℕ) → j < length names → slice_index vals j ≡ entry_at cols vals (slice_index names j)
  full_entries vals same j l =
      let inside : j < length cols = omega arith in
      let w = known j inside in
      let here : w.0 ≡ j = omega (arith, at_least j w.0 inside w.1 w.2, at_most (length cols - j - 1) j w.0 (omega arith) w.1 w.2) in
      sym (ap (entry_at cols vals) (ap (slice_index names) (sym here) ∙ w.2) ∙ entry_here cols vals (sym same) ascending j inside)
