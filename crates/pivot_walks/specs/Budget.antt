-- How many more steps a search may take.
use Rattle.std.specs.Prelude.{◌≡◌, ℕ}

-- any number, for which the largest u64 stands
abbrev pub IsUnbounded : ℕ → Type 0
IsUnbounded left = left ≡ 18446744073709551615

-- if any number could be taken, it still can
abbrev pub StaysUnbounded : ℕ → ℕ → Type 0
StaysUnbounded old new = IsUnbounded old → IsUnbounded new
