-- What the walks of a search may cost together.
use Rattle.std.specs.Prelude.{◌≡◌, ◌≤◌, ◌+◌, ℕ, zero, suc, List}
use Rattle.residue_words.specs.Matrix.{Matrix}
use Rattle.residue_words.specs.declared.plain.Pair.{Pair}
use Rattle.pivot_walks.specs.Cost.{IsCost}

-- n is the sum of the costs of the first k rows
abbrev pub IsCostOfRows : Matrix → List Pair → ℕ → ℕ → Type 0
IsCostOfRows A h zero n = n ≡ 0
IsCostOfRows A h (suc k) n = (m : ℕ) × (own : ℕ) × IsCostOfRows A h k m × IsCost A h k own × (n ≡ m + own)

-- the count of steps went from one number to another by at most the cost of the first k rows
abbrev pub TakesCostOfRows : Matrix → List Pair → ℕ → ℕ → ℕ → Type 0
TakesCostOfRows A h k before after = (n : ℕ) → IsCostOfRows A h k n → after ≤ before + n
