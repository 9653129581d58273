-- Rows by the columns where they are stored, and where they end.
use Rattle.std.proofs.Common.{ℕ, ◌≡◌, ◌+◌, ◌<◌, ◌≤◌, ◌⊎◌, inl, inr, List, length, slice_index, sym, ap, ◌∙◌, arith}
use Rattle.std.proofs.lemmas.Bool.{cases_eq, cases_lt}
use Rattle.residue_words.specs.Matrix.{IsVector}
use Rattle.sparse_rows.specs.Rows.{nonzeros, support}
use Rattle.sparse_rows.specs.Stored.{IsSparse}
use Rattle.sparse_rows.proofs.Spread.{entry_cover, entry_here, entry_support, support_sparse}
use Rattle.cert_checker.specs.Diagonal.{LastAt}

-- an entry is 0 or at a stored column
pub stored_cover : (v : List ℕ) (j : ℕ) → (slice_index v j ≡ 0) ⊎ ((q : ℕ) × (q < length (support v)) × (slice_index (support v) q ≡ j))
stored_cover v j = elim (entry_cover (support v) (nonzeros v) j) [ inl z ↦ inl (sym (entry_support v j) ∙ z) | inr w ↦ inr w ]

-- what stands at a stored column
pub stored_value : {p n : ℕ} {v : List ℕ} → IsVector p n v → (q : ℕ) → q < length (support v) → slice_index v (slice_index (support v) q) ≡ slice_index (nonzeros v) q
stored_value {p} {n} {v} h q l =
    let s : IsSparse p n (support v) (nonzeros v) = support_sparse h in
    sym (entry_support v (slice_index (support v) q)) ∙ entry_here (support v) (nonzeros v) s.long s.rising q l

-- it isn't 0
pub stored_positive : {p n : ℕ} {v : List ℕ} → IsVector p n v → (q : ℕ) → q < length (support v) → 0 < slice_index v (slice_index (support v) q)
stored_positive {p} {n} {v} h q l =
    let s : IsSparse p n (support v) (nonzeros v) = support_sparse h in
    omega (arith, stored_value h q l, s.positive q (omega (arith, s.long)))

-- the last stored column is that of the last nonzero entry
pub last_yes : {p n : ℕ} {v : List ℕ} → IsVector p n v → (k q : ℕ) → q + 1 ≡ length (support v) → slice_index (support v) q ≡ k → LastAt n (slice_index v) k
last_yes {p} {n} {v} h k q last at = record {
  nonzero = omega (arith, stored_positive h q (omega arith), ap (slice_index v) at);
  after = λ t a b. elim (stored_cover v t) [
    | inl z ↦ z
    | inr w ↦
        let s : IsSparse p n (support v) (nonzeros v) = support_sparse h in
        elim (cases_eq w.0 q) [
          | inl same ↦ absurd (omega (arith, ap (slice_index (support v)) same, w.2))
          | inr d ↦ absurd (omega (arith, s.rising w.0 q (omega (arith, w.1)) (omega arith), w.2))
        ]
  ];
}

pub last_none : (n : ℕ) (v : List ℕ) (k : ℕ) → length (support v) ≡ 0 → LastAt n (slice_index v) k → ⊥
last_none n v k none l = elim (stored_cover v k) [ inl z ↦ omega (arith, l.nonzero, z) | inr w ↦ omega (arith, w.1) ]

pub last_unique : {p n : ℕ} {v : List ℕ} → IsVector p n v → (k q : ℕ) → q + 1 ≡ length (support v) → LastAt n (slice_index v) k → slice_index (support v) q ≡ k
last_unique {p} {n} {v} h k q last l =
    let s : IsSparse p n (support v) (nonzeros v) = support_sparse h in
    let c : ℕ = slice_index (support v) q in
    let low : c ≤ k = elim (cases_lt k c) [
      | inl b ↦ absurd (omega (arith, l.after c b (s.below q (omega arith)), stored_positive h q (omega arith)))
      | inr b ↦ b
    ] in
    elim (stored_cover v k) [
      | inl z ↦ absurd (omega (arith, l.nonzero, z))
      | inr w ↦ elim (cases_eq w.0 q) [
        | inl same ↦ ap (slice_index (support v)) (sym same) ∙ w.2
        | inr d ↦ absurd (omega (arith, s.rising w.0 q (omega (arith, w.1)) (omega arith), w.2))
      ]
    ]
