-- Lists of numbers.
use Rattle.std.specs.Prelude.{◌≢◌, ◌<◌, ℕ, List, length, slice_index}

-- each index is below n
abbrev pub AreBelow : ℕ → List ℕ → Type 0
AreBelow n indices = (k : ℕ) → k < length indices → slice_index indices k < n

-- the numbers ascend
abbrev pub AreRising : List ℕ → Type 0
AreRising xs = (k t : ℕ) → k < t → t < length xs → slice_index xs k < slice_index xs t

-- no two of the numbers are equal
abbrev pub AreDistinct : List ℕ → Type 0
AreDistinct list = (k t : ℕ) → k < t → t < length list → slice_index list k ≢ slice_index list t
