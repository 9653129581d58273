-- The one inverse of a modulo p, or none.
use Rattle.std.proofs.Common.{ℕ, zero, suc, Bool, true, false, eqb, ◌≡◌, ◌≢◌, ◌+◌, ◌*◌, ◌-◌, ◌%◌, ◌<◌, ◌≤◌, ◌⊎◌, inl, inr, sym, refl, ap, ◌∙◌, arith, mod-eq_of_lt}
use Rattle.std.proofs.Math.Nat.{zero-mod}
use Rattle.std.proofs.lemmas.Bool.{cases_Bool, cases_eq}
use Rattle.std.proofs.lemmas.Bool.Decides.{nat_tests}
use Rattle.residue_words.specs.Residues.{inverse, inverse_below}
use Rattle.residue_words.proofs.Residues.{mul_same, product_zero_left, residue_equal, right_zero, multiple_zero}
use Rattle.residue_words.proofs.Euclid.{IsEuclid, euclid_factor, signed_factor}

-- two inverses are equal
pub inverse_unique : (p a x y : ℕ) → 2 ≤ p → x < p → y < p → (a * x) % p ≡ 1 → (a * y) % p ≡ 1 → x ≡ y
inverse_unique p a x y two hx hy ex ey =
    let one : 1 % p ≡ 1 = mod-eq_of_lt two in
    let left : (x * (a * y)) % p ≡ (x * 1) % p = mul_same p x x (a * y) 1 refl (ey ∙ sym one) in
    let right : ((a * x) * y) % p ≡ (1 * y) % p = mul_same p (a * x) 1 y y (ex ∙ sym one) refl in
    residue_equal p x y hx hy (ap (λ n. n % p) (omega arith) ∙ sym left ∙ ap (λ n. n % p) (omega arith) ∙ right ∙ ap (λ n. n % p) (omega arith))

below_is : (p a x n : ℕ) → 2 ≤ p → n ≤ p → x < n → (a * x) % p ≡ 1 → inverse_below p a n ≡ x
unfolding inverse_below
below_is p a x zero two within less e = absurd (omega arith)
below_is p a x (suc n) two within less e = elim (cases_Bool (eqb ((a * n) % p) 1)) [
  | inl found ↦ rw found (inverse_unique p a n x two (omega arith) (omega arith) (grind (arith, nat_tests)) e)
  | inr other ↦
      let below : x < n = elim (cases_eq x n) [
        | inl same ↦ absurd (let e' : (a * n) % p ≡ 1 = rw same at e in grind (arith, nat_tests))
        | inr apart ↦ omega arith
      ] in
      rw other (below_is p a x n two (omega arith) below e)
]

below_none : (p a n : ℕ) → ((x : ℕ) → x < n → (a * x) % p ≢ 1) → inverse_below p a n ≡ 0
unfolding inverse_below
below_none p a zero h = refl
below_none p a (suc n) h =
    let apart : (a * n) % p ≢ 1 = h n (omega arith) in
    let other : eqb ((a * n) % p) 1 ≡ false = grind (arith, nat_tests) in
    rw other (below_none p a n (λ x less. h x (omega arith)))

-- a residue that is an inverse is the inverse
pub inverse_is : (p a x : ℕ) → 2 ≤ p → x < p → (a * x) % p ≡ 1 → inverse p a ≡ x
inverse_is p a x two less e = below_is p a x p two (omega arith) less e

-- where a times a residue other than 0 is 0, there is no inverse
pub inverse_none : (p a c : ℕ) → 2 ≤ p → 0 < c → c < p → (a * c) % p ≡ 0 → inverse p a ≡ 0
inverse_none p a c two some less e = below_none p a p (λ x h one.
    let none : ((a * c) * x) % p ≡ 0 = product_zero_left p (a * c) x e in
    let same : ((a * x) * c) % p ≡ (1 * c) % p = mul_same p (a * x) 1 c c (one ∙ sym (mod-eq_of_lt two)) refl in
    let zero_c : c % p ≡ 0 = ap (λ n. n % p) (omega arith) ∙ sym same ∙ ap (λ n. n % p) (omega arith) ∙ none in
    omega (arith, sym (mod-eq_of_lt less) ∙ zero_c))

-- at rest 1 the last factor, with its sign, is the inverse
pub euclid_inverse : (p a before rest factor_before factor : ℕ) (negative : Bool) → 2 ≤ p → IsEuclid p a before rest factor_before factor negative → rest ≡ 1 →
    inverse p a ≡ signed_factor p factor negative
euclid_inverse p a before rest factor_before factor false two h one =
    inverse_is p a factor two (euclid_factor p a before rest factor_before factor false h) (h.signed.0 ∙ ap (λ x. x % p) one ∙ mod-eq_of_lt two)
euclid_inverse p a before rest factor_before factor true two h one =
    let less : factor < p = euclid_factor p a before rest factor_before factor true h in
    let whole : p - factor + factor ≡ p = omega arith in
    let all : a * (p - factor) + (a * factor + rest) ≡ 1 + a * p = omega (arith, ap (λ y. a * y) whole) in
    inverse_is p a (p - factor) two (omega (arith, h.positive))
    (sym (right_zero p (a * (p - factor)) (a * factor + rest) h.signed.0) ∙ ap (λ x. x % p) all ∙ right_zero p 1 (a * p) (multiple_zero p a) ∙ mod-eq_of_lt two)

-- at rest 0 there is none
pub euclid_none : (p a before rest factor_before factor : ℕ) (negative : Bool) → 2 ≤ p → IsEuclid p a before rest factor_before factor negative → rest ≡ 0 → inverse p a ≡ 0
euclid_none p a before rest factor_before factor false two h none =
    inverse_none p a factor two h.positive (euclid_factor p a before rest factor_before factor false h) (h.signed.0 ∙ ap (λ x. x % p) none ∙ zero-mod p)
euclid_none p a before rest factor_before factor true two h none =
    inverse_none p a factor two h.positive (euclid_factor p a before rest factor_before factor true h)
    (ap (λ x. x % p) (omega (arith, none)) ∙ h.signed.0)
