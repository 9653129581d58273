-- Levels that are raised, and how much is left to raise.
use Rattle.std.specs.Prelude.{◌≡◌, ◌≢◌, ◌<◌, ◌≤◌, ◌+◌, ◌-◌, ◌*◌, ◌⊎◌, ℕ, List, [], ◌∷◌, length, slice_index}
use Rattle.std.specs.List.{Contains}
use Rattle.pivot_walks.specs.Indexed.{Indexed}
use Rattle.pivot_walks.specs.MarkedColumns.{HasWidthOf, Marked}

-- how far the levels stand below n
abbrev pub below_top : ℕ → List ℕ → ℕ
below_top n [] = 0
below_top n (v ∷ vs) = (n - v) + below_top n vs

-- a column that is raised is marked once
abbrev pub work_left : ℕ → List ℕ → List ℕ → ℕ
work_left n levels marked = 2 * below_top n levels + length marked

-- the same where the levels stay below the number of the pairs
abbrev pub work : Indexed → List ℕ → Marked → ℕ
work w levels marks = work_left (length w.pairs) levels marks.list

-- the level of the column is as it was
abbrev pub Stays : List ℕ → List ℕ → ℕ → Type 0
Stays old new d = slice_index new d ≡ slice_index old d

-- column c stands at this level, below the number of the pairs, and isn't marked, so what it leads to can be raised above it
pub record CanRaiseAbove (w : Indexed) (levels : List ℕ) (marks : Marked) (c level : ℕ) : Type 0 where
  pub width : HasWidthOf w marks
  pub long : length levels ≡ w.rows.matrix.width
  pub at : slice_index levels c ≡ level
  pub low : level < length w.pairs
  pub unmarked : ¬ Contains marks.list c

-- of the levels only that of column d changed: it stands above the given one now, by one if it was raised, unless d is c itself
pub record IsRaisedAbove (c level d : ℕ) (old new : List ℕ) : Type 0 where
  pub long : length new ≡ length old
  pub others : (e : ℕ) → e ≢ d → slice_index new e ≡ slice_index old e
  pub raised : slice_index old d ≤ slice_index new d
  pub above : d ≢ c → level < slice_index new d
  pub own : d ≡ c → Stays old new d
  pub by_one : Stays old new d ⊎ (slice_index new d ≡ level + 1)
