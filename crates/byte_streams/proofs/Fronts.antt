-- Where the front of a list ends whose elements all pass.
use Rattle.std.proofs.Common.{ℕ, ◌+◌, ◌<◌, ◌≤◌, ◌≡◌, Bool, true, false, List, length, get_or, inl, inr, arith}
use Rattle.std.specs.List.{prefix_len}
use Rattle.std.proofs.lemmas.Bool.{cases_lt}
use Rattle.std.proofs.lemmas.List.Sums.{prefix_len_passes, prefix_len_stops, prefix_len-le-length}

-- a front ends at the first element that doesn't pass
pub front_ends : (p : ℕ → Bool) (xs : List ℕ) (k : ℕ) → k ≤ prefix_len p xs → (k < length xs → p (get_or xs k 0) ≡ false) → prefix_len p xs ≡ k
front_ends p xs k within stops =
    elim (cases_lt k (prefix_len p xs)) [
      | inl less ↦
          let inside : k < length xs = omega (arith, prefix_len-le-length p xs) in
          let yes : p (get_or xs k 0) ≡ true = prefix_len_passes p xs k 0 less in
          let no : p (get_or xs k 0) ≡ false = stops inside in
          absurd cc
      | inr more ↦ omega arith
    ]

-- and goes on at one that passes
pub front_goes : (p : ℕ → Bool) (xs : List ℕ) (k : ℕ) → k ≤ prefix_len p xs → k < length xs → p (get_or xs k 0) ≡ true → k + 1 ≤ prefix_len p xs
front_goes p xs k within inside passes =
    elim (cases_lt k (prefix_len p xs)) [
      | inl less ↦ omega arith
      | inr more ↦
          let same : prefix_len p xs ≡ k = omega arith in
          let no : p (get_or xs (prefix_len p xs) 0) ≡ false = prefix_len_stops p xs 0 (omega arith) in
          absurd (let no' : p (get_or xs k 0) ≡ false = rw same at no in cc)
    ]
