-- Numbers that ascend.
use Rattle.std.proofs.Common.{ℕ, zero, suc, ◌≡◌, ◌-◌, ◌<◌, ◌≤◌, inl, inr, List, length, slice_index, ap, arith}
use Rattle.std.proofs.lemmas.Bool.{cases_eq, cases_lt}
use Rattle.column_lists.specs.Numbers.{AreRising}

-- numbers that ascend are at least their places
pub place_low : (xs : List ℕ) → AreRising xs → (k : ℕ) → k < length xs → k ≤ slice_index xs k
place_low xs up zero l = omega arith
place_low xs up (suc k) l = omega (arith, place_low xs up k (omega arith), up k (suc k) (omega arith) l)

-- so there are at most n below n
pub rising_short : (xs : List ℕ) (n : ℕ) → AreRising xs → ((k : ℕ) → k < length xs → slice_index xs k < n) → length xs ≤ n
rising_short xs n up below = elim (cases_eq (length xs) 0) [
  | inl e ↦ omega arith
  | inr d ↦ omega (arith, place_low xs up (length xs - 1) (omega arith), below (length xs - 1) (omega arith))
]

-- and they are in the order of their places
pub rising_order : (xs : List ℕ) → AreRising xs → (k t : ℕ) → k < length xs → t < length xs → slice_index xs k < slice_index xs t → k < t
rising_order xs up k t a b l = elim (cases_lt k t) [
  | inl s ↦ s
  | inr s ↦ elim (cases_eq k t) [
    | inl e ↦ absurd (omega (arith, ap (slice_index xs) e))
    | inr d ↦ absurd (omega (arith, up t k (omega arith) a))
  ]
]

-- and differ
pub rising_once : (xs : List ℕ) → AreRising xs → (k t : ℕ) → k < length xs → t < length xs → slice_index xs k ≡ slice_index xs t → k ≡ t
rising_once xs up k t a b e = elim (cases_lt k t) [
  | inl s ↦ absurd (omega (arith, up k t s b))
  | inr s ↦ elim (cases_eq k t) [
    | inl q ↦ q
    | inr d ↦ absurd (omega (arith, up t k (omega arith) a))
  ]
]
