-- Primes, and finite sums of whole numbers.
use Rattle.std.specs.Prelude.{◌≢◌, ◌<◌, ◌≤◌, ◌+◌, ◌*◌, ◌%◌, ◌==◌, if◌then◌else◌, ℕ, zero, suc}

-- p is prime: it is 2 or more, and no d with 2 ≤ d < p divides it (textbook)
pub record IsPrime (p : ℕ) : Type 0 where
  pub two_or_more : 2 ≤ p
  pub undivided : (d : ℕ) → 2 ≤ d → d < p → p % d ≢ 0

-- f 0 + f 1 + .. + f (n - 1)
unfoldable pub sum_below : ℕ → (ℕ → ℕ) → ℕ
sum_below zero f = 0
sum_below (suc n) f = sum_below n f + f n

-- the residue x with a x = 1 modulo p, looked for below n; 0 where there is none
unfoldable pub inverse_below : ℕ → ℕ → ℕ → ℕ
inverse_below p a zero = 0
inverse_below p a (suc n) = if (a * n) % p == 1 then n else inverse_below p a n

-- the inverse of a modulo p; 0 where there is none
abbrev pub inverse : ℕ → ℕ → ℕ
inverse p a = inverse_below p a p
