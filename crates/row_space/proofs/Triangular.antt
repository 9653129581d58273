-- Triangular systems modulo a prime have only the zero solution.
use Rattle.std.proofs.Common.{ℕ, zero, suc, ◌≡◌, ◌≢◌, ◌+◌, ◌*◌, ◌%◌, ◌<◌, ◌≤◌, ◌⊎◌, inl, inr, sym, ap, ◌∙◌, arith, zero-mul, mul-zero, one-mul}
use native.Mathlib.Nat.{zero-mod}
use Rattle.std.proofs.lemmas.Bool.{cases_lt, cases_eq}
use Rattle.residue_words.specs.Residues.{IsPrime, sum_below}
use Rattle.residue_words.proofs.Residues.{no_divisors, product_zero_left}
use Rattle.residue_words.proofs.Sums.{sum_same}
use Rattle.residue_words.proofs.Vectors.{delta, delta_same, delta_other, sum_delta}

-- a sum whose terms but one are multiples of p is congruent to this term
pub sum_single_same : (p n : ℕ) (f : ℕ → ℕ) (k : ℕ) → k < n → ((i : ℕ) → i < n → i ≢ k → f i % p ≡ 0) → sum_below n f % p ≡ f k % p
sum_single_same p n f k l h =
    sum_same p n f (λ i. delta k i * f i) (λ i o. elim (cases_eq i k) [
      | inl e ↦ ap (λ x. x % p) (sym (one-mul (f i)) ∙ ap (λ x. x * f i) (sym (ap (delta k) e ∙ delta_same k)))
      | inr d ↦ h i o d ∙ sym (zero-mod p) ∙ ap (λ x. x % p) (sym (zero-mul (f i)) ∙ ap (λ x. x * f i) (sym (delta_other k i d)))
    ])
    ∙ ap (λ x. x % p) (sum_delta n k f l)

module _ (p r : ℕ) (y : ℕ → ℕ) (u : ℕ → ℕ → ℕ) (prime : IsPrime p) (diagonal : (k : ℕ) → k < r → u k k % p ≢ 0)
    (zero_sum : (k : ℕ) → k < r → sum_below r (λ t. y t * u t k) % p ≡ 0) where
  -- the unknown k is zero where the others are, or stand with a 0
  unknown_zero : (k : ℕ) → k < r → ((t : ℕ) → t < r → t ≢ k → (y t % p ≡ 0) ⊎ (u t k ≡ 0)) → y k % p ≡ 0
  unknown_zero k l others =
      elim (no_divisors p (y k) (u k k) prime (sym (sum_single_same p r (λ t. y t * u t k) k l (λ t o d. elim (others t o d) [
        | inl z ↦ product_zero_left p (y t) (u t k) z
        | inr z ↦ ap (λ x. y t * x % p) z ∙ ap (λ x. x % p) (mul-zero (y t)) ∙ zero-mod p
      ])) ∙ zero_sum k l)) [
        | inl z ↦ z
        | inr z ↦ absurd (diagonal k l z)
      ]

  -- from the first unknown on
  up : ((k t : ℕ) → k < t → t < r → u t k ≡ 0) → (n : ℕ) → n ≤ r → (k : ℕ) → k < n → y k % p ≡ 0
  up after zero le k l = absurd (omega arith)
  up after (suc n) le k l = unknown_zero k (omega arith) (λ t o d. elim (cases_lt k t) [
    | inl past ↦ inr (after k t past o)
    | inr before ↦ inl (up after n (omega arith) t (omega arith))
  ])

  -- from the last unknown back
  down : ((k t : ℕ) → k < t → t < r → u k t ≡ 0) → (n : ℕ) (k : ℕ) → r ≤ k + n → k < r → y k % p ≡ 0
  down before zero k near l = absurd (omega arith)
  down before (suc n) k near l = unknown_zero k l (λ t o d. elim (cases_lt k t) [
    | inl past ↦ inl (down before n t (omega arith) o)
    | inr less ↦ inr (before t k (omega arith) l)
  ])

  -- y is zero where column k of u has zeros below the diagonal
  pub upper_zero : ((k t : ℕ) → k < t → t < r → u t k ≡ 0) → (k : ℕ) → k < r → y k % p ≡ 0
  upper_zero after k l = up after r (omega arith) k l

  -- y is zero where column k of u has zeros above the diagonal
  pub lower_zero : ((k t : ℕ) → k < t → t < r → u k t ≡ 0) → (k : ℕ) → k < r → y k % p ≡ 0
  lower_zero before k l = down before r k (omega arith) l
