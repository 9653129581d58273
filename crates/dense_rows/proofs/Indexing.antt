-- The rows and columns that have an entry.
use Rattle.std.proofs.Common.{ℕ, zero, suc, ◌≡◌, ◌≢◌, ◌<◌, ◌⊎◌, inl, inr, List, length, slice_index, sym, ap, ◌∙◌, arith}
use Rattle.std.specs.List.{Contains}
use Rattle.std.proofs.lemmas.Bool.{cases_eq}
use Rattle.std.proofs.lemmas.List.{get_or_default}
use Rattle.residue_words.specs.Matrix.{Matrix, entry, row}
use Rattle.sparse_rows.specs.Rows.{AreFilled, AreOccupied, AreRising, nonzeros, support}
use Rattle.sparse_rows.proofs.Spread.{entry_cover, entry_support}
use Rattle.sparse_rows.specs.Rows.{AreBelow}

-- x is one of the first m, or none
pub index_or_not : (m : ℕ) (name : ℕ → ℕ) (x : ℕ) → ((k : ℕ) × (k < m) × (name k ≡ x)) ⊎ ((k : ℕ) → k < m → name k ≢ x)
index_or_not zero name x = inr (λ k l. absurd (omega arith))
index_or_not (suc m) name x = elim (cases_eq (name m) x) [
  | inl e ↦ inl (m, omega arith, e)
  | inr d ↦ elim (index_or_not m name x) [
    | inl w ↦ inl (w.0, omega (arith, w.1), w.2)
    | inr none ↦ inr (λ k l. elim (cases_eq k m) [ inl e ↦ λ same. d (ap name (sym e) ∙ same) | inr o ↦ none k (omega arith) ])
  ]
]

-- an entry that is not 0 stands in the support
pub supported : (v : List ℕ) (x : ℕ) → slice_index v x ≢ 0 → (k : ℕ) × (k < length (support v)) × (slice_index (support v) k ≡ x)
supported v x d = elim (entry_cover (support v) (nonzeros v) x) [
  | inl z ↦ absurd (d (sym (entry_support v x) ∙ z))
  | inr w ↦ w
]

-- an item of a list stands in it somewhere
pub stands_at : (xs : List ℕ) (x : ℕ) → Contains xs x → (k : ℕ) × (k < length xs) × (slice_index xs k ≡ x)
stands_at xs x w = (w.0, w.1, get_or_default xs w.0 0 x w.1 ∙ w.2)

-- these ascend and are below n, and each other number below n is empty
pub record AreIndices (n : ℕ) (IsEmpty : ℕ → Type 0) (indices : List ℕ) : Type 0 where
  pub inside : AreBelow n indices
  pub rising : AreRising indices
  pub others : (x : ℕ) → x < n → ((j : ℕ) → j < length indices → slice_index indices j ≢ x) → IsEmpty x

-- all entries of row i, and of column x, are 0
abbrev pub IsEmptyRow : Matrix → ℕ → Type 0
IsEmptyRow A i = (x : ℕ) → x < A.width → entry A i x ≡ 0

abbrev pub IsEmptyColumn : Matrix → ℕ → Type 0
IsEmptyColumn A x = (i : ℕ) → i < A.height → entry A i x ≡ 0

pub filled_indices : {A : Matrix} {rows : List ℕ} → AreFilled A rows → AreIndices A.height (IsEmptyRow A) rows
filled_indices {A} {rows} h = record {
  inside = h.below;
  rising = h.rising;
  others = λ i l none x lx. elim (cases_eq (entry A i x) 0) [
    | inl z ↦ z
    | inr d ↦
        let w = supported (row A i) x d in
        let place = stands_at rows i (h.all i l (omega (arith, w.1))) in
        absurd (none place.0 place.1 place.2)
  ];
}

pub occupied_indices : {A : Matrix} {columns : List ℕ} → AreOccupied A columns → AreIndices A.width (IsEmptyColumn A) columns
occupied_indices {A} {columns} h = record {
  inside = h.enough.below;
  rising = h.enough.rising;
  others = λ x l none i li. elim (cases_eq (entry A i x) 0) [
    | inl z ↦ z
    | inr d ↦ let place = stands_at columns x (h.enough.all i x li l d) in absurd (none place.0 place.1 place.2)
  ];
}
