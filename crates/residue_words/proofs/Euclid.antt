-- Euclid's algorithm for the inverse of a modulo p.
use Rattle.std.proofs.Common.{ℕ, Bool, true, false, not, ◌≡◌, ◌≢◌, ◌+◌, ◌*◌, ◌-◌, ◌/◌, ◌%◌, ◌<◌, ◌≤◌, inl, inr, sym, refl, ap, ◌∙◌, arith, mod-lt, mod-eq_of_lt}
use Rattle.std.proofs.Math.Nat.{div-add-mod, le-mul_of_pos_right, mul-le-mul_right, mul-mod_right, zero-mod}
use Rattle.std.proofs.lemmas.Bool.{cases_eq}
use Rattle.residue_words.specs.Residues.{IsPrime}
use Rattle.residue_words.proofs.Residues.{add_same, mul_same, add_cancel, right_zero, multiple_zero}

-- a times factor is rest and a times factor_before is minus before, modulo p; or all this with the other signs
abbrev pub Signed : ℕ → ℕ → ℕ → ℕ → ℕ → ℕ → Bool → Type 0
Signed p a before rest factor_before factor false = ((a * factor) % p ≡ rest % p) × ((a * factor_before + before) % p ≡ 0)
Signed p a before rest factor_before factor true = ((a * factor + rest) % p ≡ 0) × ((a * factor_before) % p ≡ before % p)

-- the state of the algorithm: two remainders with their factors
pub record IsEuclid (p a before rest factor_before factor : ℕ) (negative : Bool) : Type 0 where
  pub total : before * factor + rest * factor_before ≡ p
  pub falling : rest < before
  pub large : 1 < before
  pub within : before ≤ p
  pub positive : 0 < factor
  pub ended : rest ≡ 0 → before < p
  pub signed : Signed p a before rest factor_before factor negative

pub euclid_begins : (p a : ℕ) → 2 ≤ p → a ≢ 0 → a < p → IsEuclid p a p a 0 1 false
euclid_begins p a two nonzero less = record {
  total = omega arith;
  falling = less;
  large = omega arith;
  within = omega arith;
  positive = omega arith;
  ended = λ e. absurd (nonzero e);
  signed = (ap (λ x. x % p) (omega arith), ap (λ x. x % p) (omega arith) ∙ multiple_zero p 1);
}

-- the next factor is at most p
pub next_factor_within : (p a before rest factor_before factor : ℕ) (negative : Bool) → IsEuclid p a before rest factor_before factor negative →
    1 < rest → factor_before + before / rest * factor ≤ p
next_factor_within p a before rest factor_before factor negative h large =
    let split : rest * (before / rest) + before % rest ≡ before = div-add-mod before rest in
    let once : factor_before + before / rest * factor ≤ (factor_before + before / rest * factor) * rest = le-mul_of_pos_right _ (omega arith) in
    omega (arith, ap (λ y. y * factor) split, h.total)

-- the quotient by a smaller number is not 0
quotient_positive : (before rest quotient next : ℕ) → rest * quotient + next ≡ before → next < rest → rest < before → 0 < quotient
quotient_positive before rest quotient next split below falling =
    elim (cases_eq quotient 0) [ inl e ↦ omega (arith, ap (λ y. rest * y) e) | inr n ↦ omega arith ]

-- the signs change at each step
next_signed : (p a before rest factor_before factor quotient next : ℕ) (negative : Bool) → 2 ≤ p → rest * quotient + next ≡ before →
    Signed p a before rest factor_before factor negative → Signed p a rest next factor (factor_before + quotient * factor) (not negative)
next_signed p a before rest factor_before factor quotient next false two split h =
    let sum : (a * factor_before + before + quotient * (a * factor)) % p ≡ (0 + quotient * rest) % p =
    add_same p (a * factor_before + before) 0 (quotient * (a * factor)) (quotient * rest) (h.1 ∙ sym (zero-mod p)) (mul_same p quotient quotient (a * factor) rest refl h.0) in
    let moved : (a * (factor_before + quotient * factor) + next + quotient * rest) % p ≡ (0 + quotient * rest) % p =
    ap (λ x. x % p) (omega (arith, split)) ∙ sum in
    (add_cancel p (a * (factor_before + quotient * factor) + next) 0 (quotient * rest) two moved ∙ zero-mod p, h.0)
next_signed p a before rest factor_before factor quotient next true two split h =
    let sum : (a * factor_before + quotient * (a * factor + rest)) % p ≡ (before + quotient * 0) % p =
    add_same p (a * factor_before) before (quotient * (a * factor + rest)) (quotient * 0) h.1 (mul_same p quotient quotient (a * factor + rest) 0 refl (h.0 ∙ sym (zero-mod p))) in
    let moved : (a * (factor_before + quotient * factor) + quotient * rest) % p ≡ (next + quotient * rest) % p =
    ap (λ x. x % p) (omega arith) ∙ sum ∙ ap (λ x. x % p) (omega (arith, split)) in
    (add_cancel p (a * (factor_before + quotient * factor)) next (quotient * rest) two moved, h.0)

-- one step of the algorithm
pub euclid_steps : (p a before rest factor_before factor : ℕ) (negative : Bool) → 2 ≤ p → IsEuclid p a before rest factor_before factor negative →
    1 < rest → IsEuclid p a rest (before % rest) factor (factor_before + before / rest * factor) (not negative)
euclid_steps p a before rest factor_before factor negative two h large =
    let split : rest * (before / rest) + before % rest ≡ before = div-add-mod before rest in
    let below : before % rest < rest = mod-lt before (omega arith) in
    let one : 0 < before / rest = quotient_positive before rest (before / rest) (before % rest) split below h.falling in
    let more : 1 * factor ≤ before / rest * factor = mul-le-mul_right factor (omega arith) in
    record {
      total = omega (arith, ap (λ y. y * factor) split, h.total);
      falling = below;
      large = large;
      within = omega (arith, h.falling, h.within);
      positive = omega (arith, h.positive);
      ended = λ _. omega (arith, h.falling, h.within);
      signed = next_signed p a before rest factor_before factor (before / rest) (before % rest) negative two split h.signed;
    }

-- the last factor is a residue and not 0
pub euclid_factor : (p a before rest factor_before factor : ℕ) (negative : Bool) → IsEuclid p a before rest factor_before factor negative → factor < p
euclid_factor p a before rest factor_before factor negative h =
    let twice : 2 * factor ≤ before * factor = mul-le-mul_right factor (omega (arith, h.large)) in
    omega (arith, h.total, h.positive)

-- with a prime p the algorithm ends at 1
pub euclid_one : (p a before rest factor_before factor : ℕ) (negative : Bool) → IsEuclid p a before rest factor_before factor negative → rest ≤ 1 → IsPrime p → rest ≡ 1
euclid_one p a before rest factor_before factor negative h small prime =
    elim (cases_eq rest 0) [
      | inl e ↦
          let whole : p ≡ before * factor = omega (arith, h.total, ap (λ y. y * factor_before) e) in
          absurd (prime.undivided before (omega (arith, h.large)) (h.ended e) (ap (λ x. x % before) whole ∙ mul-mod_right before factor))
      | inr n ↦ omega arith
    ]

-- the result: the factor, or where the sign is minus its negative
abbrev pub signed_factor : ℕ → ℕ → Bool → ℕ
signed_factor p factor false = factor
signed_factor p factor true = p - factor

-- the result is the inverse of a
pub euclid_ends : (p a before rest factor_before factor : ℕ) (negative : Bool) → IsEuclid p a before rest factor_before factor negative → rest ≤ 1 → IsPrime p →
    (a * signed_factor p factor negative) % p ≡ 1
euclid_ends p a before rest factor_before factor false h small prime =
    let one : rest ≡ 1 = euclid_one p a before rest factor_before factor false h small prime in
    h.signed.0 ∙ ap (λ x. x % p) one ∙ mod-eq_of_lt prime.two_or_more
euclid_ends p a before rest factor_before factor true h small prime =
    let one : rest ≡ 1 = euclid_one p a before rest factor_before factor true h small prime in
    let less : factor < p = euclid_factor p a before rest factor_before factor true h in
    let whole : p - factor + factor ≡ p = omega arith in
    let all : a * (p - factor) + (a * factor + rest) ≡ 1 + a * p = omega (arith, ap (λ y. a * y) whole) in
    sym (right_zero p (a * (p - factor)) (a * factor + rest) h.signed.0) ∙ ap (λ x. x % p) all ∙ right_zero p 1 (a * p) (multiple_zero p a) ∙ mod-eq_of_lt prime.two_or_more
