-- Congruences modulo p: `a % p ≡ b % p`.
use Rattle.std.proofs.Common.{ℕ, zero, suc, ◌≡◌, ◌≢◌, ◌+◌, ◌*◌, ◌-◌, ◌/◌, ◌%◌, ◌<◌, ◌≤◌, ◌⊎◌, inl, inr, sym, refl, ap, ◌∙◌, arith, mod-lt, mod-eq_of_lt, mul_comm, zero-mul}
use native.Mathlib.Nat.{add-mod, zero-mod, mod-mod, mul-mod_left, mod_self, div-add-mod}
use Rattle.std.proofs.lemmas.Nat.{mul-mod}
use Rattle.std.proofs.lemmas.Bool.{cases_lt, cases_eq}
use Rattle.residue_words.specs.Residues.{IsPrime}

-- sums of congruent numbers are congruent
pub add_same : (p a b c d : ℕ) → a % p ≡ b % p → c % p ≡ d % p → (a + c) % p ≡ (b + d) % p
add_same p a b c d e f = cc (add-mod a c p, add-mod b d p)

-- products of congruent numbers are congruent
pub mul_same : (p a b c d : ℕ) → a % p ≡ b % p → c % p ≡ d % p → (a * c) % p ≡ (b * d) % p
mul_same p a b c d e f = cc (mul-mod a c p, mul-mod b d p)

-- a multiple of p to the left of a sum may be left out
pub left_zero : (p a b : ℕ) → a % p ≡ 0 → (a + b) % p ≡ b % p
left_zero p a b e = add_same p a 0 b b (e ∙ sym (zero-mod p)) refl ∙ ap (λ x. x % p) (omega arith)

-- a multiple of p to the right of a sum may be left out
pub right_zero : (p a b : ℕ) → b % p ≡ 0 → (a + b) % p ≡ a % p
right_zero p a b e = ap (λ x. x % p) (omega arith) ∙ left_zero p b a e

-- a multiple of p is congruent to 0
pub multiple_zero : (p c : ℕ) → (c * p) % p ≡ 0
multiple_zero p c = mul-mod_left c p

-- a product with a factor congruent to 0 is congruent to 0
pub product_zero_left : (p a b : ℕ) → a % p ≡ 0 → (a * b) % p ≡ 0
product_zero_left p a b e = mul_same p a 0 b b (e ∙ sym (zero-mod p)) refl ∙ ap (λ x. x % p) (zero-mul b) ∙ zero-mod p

pub product_zero_right : (p a b : ℕ) → b % p ≡ 0 → (a * b) % p ≡ 0
product_zero_right p a b e = ap (λ x. x % p) (mul_comm a b) ∙ product_zero_left p b a e

-- each number has a negative: a residue that makes the sum a multiple of p
pub negative : (p a : ℕ) → 2 ≤ p → (b : ℕ) × (b < p) × ((a + b) % p ≡ 0)
negative p a two =
    let low : a % p < p = mod-lt a (omega arith) in
    elim (cases_eq (a % p) 0) [
      | inl e ↦ (0, omega arith, right_zero p a 0 (zero-mod p) ∙ e)
      | inr e ↦ (
        p - a % p,
        omega arith,
        let same : (a + (p - a % p)) % p ≡ (a % p + (p - a % p)) % p = add_same p a (a % p) (p - a % p) (p - a % p) (sym (mod-mod a p)) refl in
            let all : a % p + (p - a % p) ≡ p = omega arith in
            same ∙ ap (λ x. x % p) all ∙ mod_self p,
      )
    ]

-- what is added to both sides of a congruence may be taken away
pub add_cancel : (p a b c : ℕ) → 2 ≤ p → (a + c) % p ≡ (b + c) % p → a % p ≡ b % p
add_cancel p a b c two e =
    let n = negative p c two in
    let left : (a + c + n.0) % p ≡ a % p = ap (λ x. x % p) (omega arith) ∙ right_zero p a (c + n.0) n.2 in
    let right : (b + c + n.0) % p ≡ b % p = ap (λ x. x % p) (omega arith) ∙ right_zero p b (c + n.0) n.2 in
    sym left ∙ add_same p (a + c) (b + c) n.0 n.0 e refl ∙ right

-- residues that are congruent are equal
pub residue_equal : (p a b : ℕ) → a < p → b < p → a % p ≡ b % p → a ≡ b
residue_equal p a b la lb e = sym (mod-eq_of_lt la) ∙ e ∙ mod-eq_of_lt lb

-- with q one below p, q c is the negative of c
pub minus_one : (p q c : ℕ) → p ≡ suc q → (q * c + c) % p ≡ 0
minus_one p q c e = ap (λ x. x % p) (omega (arith, ap (λ x. c * x) e)) ∙ multiple_zero p c

-- q c is congruent to 0 only where c is
pub minus_one_nonzero : (p q c : ℕ) → p ≡ suc q → (q * c) % p ≡ 0 → c % p ≡ 0
minus_one_nonzero p q c e z = sym (left_zero p (q * c) c z) ∙ minus_one p q c e

-- the square of minus one is one
pub minus_one_twice : (p q c : ℕ) → p ≡ suc q → (q * (q * c)) % p ≡ c % p
minus_one_twice p q c e =
    sym (right_zero p (q * (q * c)) (q * c + c) (minus_one p q c e)) ∙ ap (λ x. x % p) (omega arith) ∙ left_zero p (q * (q * c) + q * c) c (minus_one p q (q * c) e)

-- the inverse of a residue r from that of the remainder of p at r: no Bezout
inverse_within : (p n a : ℕ) → IsPrime p → a ≤ n → 0 < a → a < p → (b : ℕ) × ((a * b) % p ≡ 1)
inverse_within p zero a prime le pos low = absurd (omega arith)
inverse_within p (suc n) a prime le pos low =
    let two : 2 ≤ p = prime.two_or_more in
    elim (cases_lt 1 a) [
      | inr e ↦ (1, ap (λ x. x % p) (let one : a * 1 ≡ 1 = omega arith in one) ∙ mod-eq_of_lt (omega arith))
      | inl e ↦
          let r : ℕ = p % a in
          let t : ℕ = p / a in
          let q : ℕ = p - 1 in
          let split : a * t + r ≡ p = div-add-mod p a in
          let small : r < a = mod-lt p (omega arith) in
          let nonzero : r ≢ 0 = prime.undivided a (omega arith) low in
          let below = inverse_within p n r prime (omega arith) (omega arith) (omega arith) in
          let c : ℕ = below.0 in
          let one : (r * c) % p ≡ 1 = below.1 in
          let sum_zero : (a * (t * (q * c)) + q * (r * c)) % p ≡ 0 =
          ap (λ x. x % p) (let whole : a * (t * (q * c)) + q * (r * c) ≡ (q * c) * p = omega (arith, ap (λ x. (q * c) * x) split) in whole) ∙ multiple_zero p (q * c) in
          let next : p ≡ suc q = omega arith in
          let other : (r * c + q * (r * c)) % p ≡ 0 = ap (λ x. x % p) (let turn : r * c + q * (r * c) ≡ q * (r * c) + r * c = omega arith in turn) ∙ minus_one p q (r * c) next in
          (t * (q * c), add_cancel p (a * (t * (q * c))) (r * c) (q * (r * c)) two (sum_zero ∙ sym other) ∙ one)
    ]

-- a number that a prime p does not divide has an inverse modulo p
pub inverse : (p a : ℕ) → IsPrime p → a % p ≢ 0 → (b : ℕ) × (b < p) × ((a * b) % p ≡ 1)
inverse p a prime nonzero =
    let two : 2 ≤ p = prime.two_or_more in
    let pos : 0 < a % p = omega arith in
    let i = inverse_within p (a % p) (a % p) prime (omega arith) pos (mod-lt a (omega arith)) in
    (i.0 % p, mod-lt i.0 (omega arith), mul_same p a (a % p) (i.0 % p) i.0 (sym (mod-mod a p)) (mod-mod i.0 p) ∙ i.1)

-- modulo a prime a product is zero only where a factor is
pub no_divisors : (p a b : ℕ) → IsPrime p → (a * b) % p ≡ 0 → (a % p ≡ 0) ⊎ (b % p ≡ 0)
no_divisors p a b prime e =
    elim (cases_eq (a % p) 0) [
      | inl z ↦ inl z
      | inr n ↦
          let i = inverse p a prime n in
          let two : 2 ≤ p = prime.two_or_more in
          let left : ((a * b) * i.0) % p ≡ 0 = product_zero_left p (a * b) i.0 e in
          let right : ((a * i.0) * b) % p ≡ (1 * b) % p = mul_same p (a * i.0) 1 b b (i.2 ∙ sym (mod-eq_of_lt (omega arith))) refl in
          let turn : (a * b) * i.0 ≡ (a * i.0) * b = omega arith in
          let one : 1 * b ≡ b = omega arith in
          inr (ap (λ x. x % p) (sym one) ∙ sym right ∙ ap (λ x. x % p) (sym turn) ∙ left)
    ]
