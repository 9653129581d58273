-- What follows the first entry of a row, divided by this entry.
use Rattle.std.proofs.Common.{ℕ, ◌≡◌, ◌≢◌, ◌+◌, ◌*◌, ◌%◌, ◌<◌, ◌≤◌, ◌⊎◌, List, [], ◌∷◌, length, slice_index, slice_set, inl, inr, sym, refl, ap, ◌∙◌, arith, mul-zero}
use native.Mathlib.Nat.{zero-mod}
use Rattle.std.proofs.lemmas.List.{get_or-set_same, get_or-set_other}
use Rattle.std.proofs.lemmas.Bool.{cases_eq}
use Rattle.residue_words.specs.Residues.{IsPrime}
use Rattle.residue_words.specs.Matrix.{IsVector, zeros}
use Rattle.residue_words.proofs.Vectors.{at_zeros, zeros_vector}
use Rattle.sparse_rows.specs.Rows.{support, nonzeros}
use Rattle.sparse_rows.specs.Stored.{entry_at}
use Rattle.sparse_rows.proofs.Spread.{entry_cover, entry_here, entry_support, support_sparse}
use Rattle.lead_rows.specs.Led.{IsTailOf}
use Rattle.lead_rows.proofs.Draining.{set_vector}

-- where the entries of a row stand
pub record IsListed (p : ℕ) (w : List ℕ) : Type 0 where
  pub rising : (k t : ℕ) → k < t → t < length (support w) → slice_index (support w) k < slice_index (support w) t
  pub below : (k : ℕ) → k < length (support w) → slice_index (support w) k < length w
  pub value : (k : ℕ) → k < length (support w) → slice_index w (slice_index (support w) k) ≡ slice_index (nonzeros w) k
  pub nonzero : (k : ℕ) → k < length (support w) → slice_index w (slice_index (support w) k) ≢ 0
  pub cover : (j : ℕ) → (slice_index w j ≡ 0) ⊎ ((k : ℕ) × (k < length (support w)) × (slice_index (support w) k ≡ j))

pub listed : {p n : ℕ} {w : List ℕ} → IsVector p n w → IsListed p w
listed {p} {n} {w} vector =
    let s = support_sparse vector in
    let value : (k : ℕ) → k < length (support w) → slice_index w (slice_index (support w) k) ≡ slice_index (nonzeros w) k =
    λ k l. sym (entry_support w (slice_index (support w) k)) ∙ entry_here (support w) (nonzeros w) s.long s.rising k l in
    record {
      rising = s.rising;
      below = λ k l. omega (arith, s.below k l, vector.len);
      value = value;
      nonzero = λ k l z. let pos : 0 < slice_index (nonzeros w) k = s.positive k (omega (arith, s.long)) in omega (arith, value k l, z);
      cover = λ j. elim (entry_cover (support w) (nonzeros w) j) [ inl z ↦ inl (sym (entry_support w j) ∙ z) | inr h ↦ inr h ];
    }

-- a row with no entry
entry_none : (cs vs : List ℕ) (j : ℕ) → length cs ≡ 0 → entry_at cs vs j ≡ 0
entry_none [] vs j e = refl
entry_none (c ∷ cs) vs j e = absurd (omega arith)

pub listed_none : (w : List ℕ) → length (support w) ≡ 0 → (j : ℕ) → slice_index w j ≡ 0
listed_none w e j = sym (entry_support w j) ∙ entry_none (support w) (nonzeros w) j e

-- before the first entry there is none
pub listed_before : {p : ℕ} {w : List ℕ} → IsListed p w → (j : ℕ) → j < slice_index (support w) 0 → slice_index w j ≡ 0
listed_before {p} {w} s j less = elim (s.cover j) [
  | inl z ↦ z
  | inr (k, l, e) ↦ absurd (elim (cases_eq k 0) [
    | inl first ↦ let same : slice_index (support w) k ≡ slice_index (support w) 0 = ap (slice_index (support w)) first in omega arith
    | inr later ↦ let up : slice_index (support w) 0 < slice_index (support w) k = s.rising 0 k (omega arith) l in omega arith
  ])
]

-- the entries from 1 to k are divided, the others are 0
pub record IsDividing (p : ℕ) (w : List ℕ) (factor k : ℕ) (tail : List ℕ) : Type 0 where
  pub vector : IsVector p (length w) tail
  pub done : (t : ℕ) → 0 < t → t < k → slice_index tail (slice_index (support w) t) ≡ (factor * slice_index w (slice_index (support w) t)) % p
  pub left : (j : ℕ) → j < length w → ((t : ℕ) → 0 < t → t < k → slice_index (support w) t ≢ j) → slice_index tail j ≡ 0

pub dividing_none : (p : ℕ) (w : List ℕ) (factor : ℕ) → 2 ≤ p → IsDividing p w factor 1 (zeros (length w))
dividing_none p w factor two = record {
  vector = zeros_vector p (length w) (omega arith);
  done = λ t a b. absurd (omega arith);
  left = λ j l none. at_zeros (length w) j l;
}

-- nothing stands yet at the next column, nor behind it
pub dividing_behind : {p : ℕ} {w : List ℕ} {factor k : ℕ} {tail : List ℕ} → IsListed p w → IsDividing p w factor k tail → k < length (support w) →
    (j : ℕ) → slice_index (support w) k ≤ j → j < length w → slice_index tail j ≡ 0
dividing_behind {p} {w} {factor} {k} {tail} s d l j le lj =
    d.left j lj (λ t a b e. let up : slice_index (support w) t < slice_index (support w) k = s.rising t k b l in absurd (omega arith))

-- an entry is put, or it is 0
pub dividing_put : {p : ℕ} {w : List ℕ} {factor k : ℕ} {tail : List ℕ} → 2 ≤ p → IsListed p w → IsDividing p w factor k tail → 0 < k → k < length (support w) →
    (v : ℕ) → v ≡ (factor * slice_index (nonzeros w) k) % p → IsDividing p w factor (k + 1) (slice_set tail (slice_index (support w) k) v)
dividing_put {p} {w} {factor} {k} {tail} two s d some l v e = record {
  vector = set_vector d.vector c v (omega arith);
  done = λ t a b. elim (cases_eq t k) [
    | inl same ↦ ap (λ t. slice_index (slice_set tail c v) (slice_index (support w) t)) same ∙ get_or-set_same tail c v 0 (omega (arith, s.below k l, d.vector.len))
        ∙ e ∙ ap (λ x. (factor * x) % p) (sym (s.value k l)) ∙ ap (λ t. (factor * slice_index w (slice_index (support w) t)) % p) (sym same)
    | inr apart ↦
        get_or-set_other tail c (slice_index (support w) t) v 0 (λ z. let up : slice_index (support w) t < slice_index (support w) k = s.rising t k (omega arith) l in absurd (omega arith)) ∙ d.done t a (omega arith)
  ];
  left = λ j lj none. get_or-set_other tail c j v 0 (λ z. none k some (omega arith) (sym z)) ∙ d.left j lj (λ t a b. none t a (omega arith));
}
  where
    c : ℕ
    c = slice_index (support w) k

pub dividing_zero : {p : ℕ} {w : List ℕ} {factor k : ℕ} {tail : List ℕ} → IsListed p w → IsDividing p w factor k tail → k < length (support w) →
    0 ≡ (factor * slice_index (nonzeros w) k) % p → IsDividing p w factor (k + 1) tail
dividing_zero {p} {w} {factor} {k} {tail} s d l e = record {
  vector = d.vector;
  done = λ t a b. elim (cases_eq t k) [
    | inl same ↦ ap (λ t. slice_index tail (slice_index (support w) t)) same ∙ dividing_behind s d l (slice_index (support w) k) (omega arith) (s.below k l)
        ∙ e ∙ ap (λ x. (factor * x) % p) (sym (s.value k l)) ∙ ap (λ t. (factor * slice_index w (slice_index (support w) t)) % p) (sym same)
    | inr apart ↦ d.done t a (omega arith)
  ];
  left = λ j lj none. d.left j lj (λ t a b. none t a (omega arith));
}

pub dividing_all : {p : ℕ} {w : List ℕ} {factor : ℕ} {tail : List ℕ} → 2 ≤ p → IsListed p w → IsDividing p w factor (length (support w)) tail → 0 < length (support w) →
    (IsPrime p → (slice_index (nonzeros w) 0 * factor) % p ≡ 1) → IsTailOf p w (slice_index (support w) 0) tail
dividing_all {p} {w} {factor} {tail} two s d some inverse = record {
  factor = factor;
  inverse = λ prime. ap (λ x. (x * factor) % p) (s.value 0 some) ∙ inverse prime;
  vector = d.vector;
  behind = λ j le. d.left j (omega (arith, s.below 0 some)) (λ t a b e. let up : slice_index (support w) 0 < slice_index (support w) t = s.rising 0 t a b in absurd (omega arith));
  after = λ j less lj. elim (s.cover j) [
    | inl z ↦ d.left j lj (λ t a b e. s.nonzero t b (ap (slice_index w) e ∙ z)) ∙ sym (ap (λ x. (factor * x) % p) z ∙ ap (λ x. x % p) (mul-zero factor) ∙ zero-mod p)
    | inr (k, l, e) ↦
        let later : 0 < k = elim (cases_eq k 0) [
          | inl first ↦ absurd (let same : slice_index (support w) k ≡ slice_index (support w) 0 = ap (slice_index (support w)) first in omega arith)
          | inr later ↦ omega arith
        ] in
        ap (slice_index tail) (sym e) ∙ d.done k later l ∙ ap (λ j. (factor * slice_index w j) % p) e
  ];
}
