-- A matrix has at most one complement for a prime modulus.
use Rattle.std.proofs.Common.{ℕ, suc, zero, ◌≡◌, ◌≢◌, ◌<◌, ◌%◌, ◌⊎◌, ◌∙◌, inl, inr, List, length, slice_index, sym, ap, arith, mod-eq_of_lt}
use Rattle.std.proofs.lemmas.Bool.{cases_eq}
use Rattle.residue_words.specs.declared.plain.Pair.{Pair}
use Rattle.residue_words.specs.Matrix.{Matrix, IsMatrix, entry, row}
use Rattle.residue_words.proofs.Vectors.{entry_residue, matrix_equal}
use Rattle.row_space.specs.Factors.{row_at, col_at}
use Rattle.pivot_table.specs.Order.{Triangular}
use Rattle.triangular_solve.specs.Reduced.{IsPivotRow, SchurRowIsOne}
use Rattle.schur_rows.specs.Laws.{ComplementIsOne}

placed_or_not : (m : ℕ) (place : ℕ → ℕ) (x : ℕ) → ((k : ℕ) × (k < m) × (place k ≡ x)) ⊎ (¬ ((k : ℕ) × (k < m) × (place k ≡ x)))
placed_or_not zero place x = inr (λ w. absurd (let l : w.0 < 0 = w.1 in omega arith))
placed_or_not (suc m) place x = elim (cases_eq (place m) x) [
  | inl e ↦ inl (m, omega arith, e)
  | inr d ↦ elim (placed_or_not m place x) [
    | inl w ↦ inl (w.0, omega (arith, w.1), w.2)
    | inr none ↦ inr (λ w. elim (cases_eq w.0 m) [
      | inl e ↦ d (ap place (sym e) ∙ w.2)
      | inr o ↦ none (w.0, omega (arith, w.1), w.2)
    ])
  ]
]

-- a row is that of a pair or not
pub pivot_or_not : (qs : List Pair) (i : ℕ) → IsPivotRow qs i ⊎ (¬ IsPivotRow qs i)
pivot_or_not qs i = placed_or_not (length qs) (row_at qs) i

-- the diagonal of a triangular list
pub diagonal : {p : ℕ} {A : Matrix} {qs : List Pair} → IsMatrix p A → Triangular A qs → (k : ℕ) → k < length qs → entry A (row_at qs k) (col_at qs k) % p ≢ 0
diagonal {p} {A} {qs} m tri k l z =
    let n = tri.nonzero k l in
    n.2 (sym (mod-eq_of_lt (entry_residue p A m (row_at qs k) (col_at qs k) n.0 n.1)) ∙ z)

pub complement_one : SchurRowIsOne → ComplementIsOne
complement_one schur_one p A qs B D prime m tri b d =
    matrix_equal p B D b.matrix d.matrix (b.height ∙ sym d.height) (b.width ∙ sym d.width) (λ i j li lj.
    let high : i < A.height = let e = b.height in omega arith in
    let wide : j < A.width = let e = b.width in omega arith in
    elim (pivot_or_not qs i) [
      | inl w ↦ ap (λ i. entry B i j) (sym w.2) ∙ b.pivotal w.0 j w.1 wide ∙ sym (d.pivotal w.0 j w.1 wide) ∙ ap (λ i. entry D i j) w.2
      | inr none ↦ ap (λ u. slice_index u j) (schur_one p A qs (row A i) (row B i) (row D i) prime m tri (b.others i high none) (d.others i high none))
    ])
