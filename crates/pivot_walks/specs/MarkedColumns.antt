-- Columns that are marked, in the order in which they were.
use Rattle.std.specs.Prelude.{◌≡◌, ◌≢◌, ◌<◌, ◌≤◌, ℕ, Bool, true, false, List, [], ◌∷◌, ◌++◌, length, slice_index, slice_index_or}
use Rattle.std.specs.List.{Contains}
use Rattle.pivot_walks.specs.Indexed.{Indexed}

-- what callers see of marks: how many columns there are, and the marked ones, each once
pub record Marked : Type 0 where
  pub width : ℕ
  pub list : List ℕ

-- there is a mark for each column of the matrix
abbrev pub HasWidthOf : Indexed → Marked → Type 0
HasWidthOf w marks = marks.width ≡ w.rows.matrix.width

-- the flags are true at the columns of the list, each of which stands in it once, and there is room for all
pub record AreFlagsOf (flags : List Bool) (list : List ℕ) (room : ℕ) : Type 0 where
  pub enough : length flags ≤ room
  pub inside : (k : ℕ) → k < length list → slice_index list k < length flags
  pub true_inside : (k : ℕ) → k < length list → slice_index_or flags (slice_index list k) false ≡ true
  pub listed : (j : ℕ) → j < length flags → slice_index_or flags j false ≡ true → Contains list j
  pub distinct : (k t : ℕ) → k < t → t < length list → slice_index list k ≢ slice_index list t

-- the list goes on by items with P
pub record Grows (P : ℕ → Type 0) (old new : List ℕ) : Type 0 where
  pub more : List ℕ
  pub is : new ≡ old ++ more
  pub each : (j : ℕ) → Contains more j → P j

-- nothing is marked, before and after
abbrev pub AreNone : Marked → Marked → Type 0
AreNone old new = (old.list ≡ []) × (new.list ≡ [])

-- column j was marked last, and isn't any more
abbrev pub LosesLast : Marked → Marked → ℕ → Type 0
LosesLast old new j = (old.list ≡ new.list ++ j ∷ []) × (j < old.width) × (¬ Contains new.list j)

-- each column stands above those before it
abbrev pub AreAscending : List ℕ → Type 0
AreAscending cols = (k t : ℕ) → k < t → t < length cols → slice_index cols k < slice_index cols t

-- P holds of the columns from place `from` on and before place `to`
abbrev pub AllBetween : (ℕ → Type 0) → List ℕ → ℕ → ℕ → Type 0
AllBetween P cols from to = (k : ℕ) → from ≤ k → k < to → P (slice_index cols k)
