-- A pivot's row that is taken out of a row.
use Rattle.std.proofs.Common.{ℕ, ◌≡◌, ◌≢◌, ◌+◌, ◌-◌, ◌*◌, ◌%◌, ◌<◌, inl, inr, List, slice_index, slice_set, sym, refl, ap, ap₂, ◌∙◌, arith, length, mod-eq_of_lt, mod-lt}
use native.Mathlib.Nat.{mod-mod}
use Rattle.std.proofs.lemmas.Bool.{cases_eq}
use Rattle.std.proofs.lemmas.List.{get_or-set_same, get_or-set_other, length-set}
use Rattle.residue_words.specs.Matrix.{IsVector, list_of}
use Rattle.residue_words.proofs.Residues.{add_same, multiple_zero, product_zero_left, right_zero}
use Rattle.residue_words.proofs.Vectors.{at_list_of, length_list_of}
use Rattle.dense_rows.specs.Dense.{IsCleared, IsTaken, TakesOut}

-- v less a q, and a q, is v
pub added_back : (p v q a : ℕ) → a < p → v < p → v ≡ ((v + ((p - a) % p) * q) % p + a * q) % p
added_back p v q a la lv =
    let b : ℕ = (p - a) % p in
    let whole : p - a + a ≡ 1 * p = omega arith in
    let none : (b + a) % p ≡ 0 = add_same p b (p - a) a a (mod-mod (p - a) p) refl ∙ ap (λ x. x % p) whole ∙ multiple_zero p 1 in
    let turn : v + b * q + a * q ≡ v + (b + a) * q = omega arith in
    sym (add_same p ((v + b * q) % p) (v + b * q) (a * q) (a * q) (mod-mod (v + b * q) p) refl ∙ ap (λ x. x % p) turn
    ∙ right_zero p v ((b + a) * q) (product_zero_left p (b + a) q none) ∙ mod-eq_of_lt lv)

-- a vector stays one with another residue at c
pub vector_set : {p n : ℕ} {v : List ℕ} (c a : ℕ) → a < p → IsVector p n v → IsVector p n (slice_set v c a)
vector_set {p} {n} {v} c a la h = record {
  len = length-set v c a ∙ h.len;
  residues = λ j l. elim (cases_eq j c) [
    | inl e ↦ omega (arith, ap (slice_index (slice_set v c a)) e, get_or-set_same v c a 0 (omega (arith, h.len)))
    | inr d ↦ omega (arith, get_or-set_other v c j a 0 d, h.residues j l)
  ];
}

-- a row of residues by a formula
pub vector_by : {p n : ℕ} (f : ℕ → ℕ) → 0 < p → IsVector p n (list_of n (λ j. f j % p))
vector_by {p} {n} f pos = record {
  len = length_list_of n (λ j. f j % p);
  residues = λ j l. omega (arith, at_list_of n (λ j. f j % p) j l, mod-lt (f j) pos);
}

-- the pivot's multiple is taken out, and the coefficient put at its column
pub taken_out : {p c : ℕ} {q v w x : List ℕ} (a : ℕ) → c < length v → IsVector p (length v) v → a ≡ slice_index v c → w ≡ list_of (length v) (λ j. (slice_index v j + ((p - a) % p) * slice_index q j) % p) →
    x ≡ slice_set w c a → TakesOut p c q v x
taken_out {p} {c} {q} {v} {w} {x} a inside h coefficient added set =
    let n = length v in
    let small : a < p = omega (arith, h.residues c inside) in
    let f : ℕ → ℕ = λ j. slice_index v j + ((p - a) % p) * slice_index q j in
    let made : x ≡ slice_set (list_of n (λ j. f j % p)) c a = set ∙ ap (λ l. slice_set l c a) added in
    let here : slice_index x c ≡ a = ap (λ l. slice_index l c) made ∙ get_or-set_same (list_of n (λ j. f j % p)) c a 0 (omega (arith, length_list_of n (λ j. f j % p))) in
    let there : (j : ℕ) → j < n → j ≢ c → slice_index x j ≡ f j % p =
    λ j l d. ap (λ l. slice_index l j) made ∙ get_or-set_other (list_of n (λ j. f j % p)) c j a 0 d ∙ at_list_of n (λ j. f j % p) j l in
    record {
      vector = rw made (vector_set c a small (vector_by f (omega arith)));
      coefficient = here ∙ coefficient;
      sum = λ j l d. added_back p (slice_index v j) (slice_index q j) a small (h.residues j l)
          ∙ ap₂ (λ y z. (y + z * slice_index q j) % p) (sym (there j l d)) coefficient;
    }

-- no column is cleared yet
pub cleared_none : {p : ℕ} {column : ℕ → ℕ} {v : List ℕ} → IsVector p (length v) v → IsCleared p 0 column v v
cleared_none h = record { vector = h; clear = λ j l t. absurd (omega (arith, t.1)); kept = λ j l no. refl }

-- one more is
pub cleared_more : {p r : ℕ} {column : ℕ → ℕ} {v w : List ℕ} → column r < length v → IsVector p (length v) v → IsCleared p r column v w → IsCleared p (r + 1) column v (slice_set w (column r) 0)
cleared_more {p} {r} {column} {v} {w} inside residues h = record {
  vector = vector_set (column r) 0 (omega (arith, residues.residues (column r) inside)) h.vector;
  clear = λ j l t. elim (cases_eq j (column r)) [
    | inl e ↦ ap (slice_index (slice_set w (column r) 0)) e ∙ get_or-set_same w (column r) 0 0 (omega (arith, h.vector.len))
    | inr d ↦
        let before : t.0 < r = omega (arith, t.1, last j t d) in
        get_or-set_other w (column r) j 0 0 d ∙ h.clear j l (t.0, before, t.2)
  ];
  kept = λ j l no. get_or-set_other w (column r) j 0 0 (λ e. no (r, omega arith, sym e)) ∙ h.kept j l (λ t. no (t.0, omega (arith, t.1), t.2));
}
  where
    last : (j : ℕ) (t : IsTaken (r + 1) column j) → j ≢ column r → t.0 ≢ r
    last j t d e = d (sym t.2 ∙ ap column e)
