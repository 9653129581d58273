-- Lists of columns: which occur, and at which places they stand.
use Rattle.std.specs.Prelude.{◌≡◌, ◌≢◌, ◌<◌, ◌↔◌, ◌++◌, ℕ, Bool, true, false, List, length, map, slice_index, slice_index_or, Contains}
use Rattle.column_lists.specs.Numbers.{AreRising}

-- the columns named stand at these places among others
pub record ArePlaces (columns named places : List ℕ) : Type 0 where
  pub are : map (slice_index columns) places ≡ named
  pub below : (k : ℕ) → k < length places → slice_index places k < length columns

-- the columns that occur in a list, ascending
pub record AreOccurring (columns found : List ℕ) : Type 0 where
  pub rising : AreRising found
  pub inside : (k : ℕ) → k < length found → Contains columns (slice_index found k)
  pub all : (j : ℕ) → Contains columns j → Contains found j

-- a mark for each column below n says whether it occurs in a list
pub record AreMarks (n : ℕ) (columns : List ℕ) (marks : List Bool) : Type 0 where
  pub long : length marks ≡ n
  pub each : (j : ℕ) → j < n → (slice_index_or marks j false ≡ true) ↔ Contains columns j

-- marks that say which columns occur in some list say then which occur in it or among these
abbrev pub MarksThese : List ℕ → List Bool → List Bool → Type 0
MarksThese columns old new = (before : List ℕ) → AreMarks (length old) before old →
    AreMarks (length old) (before ++ columns) new

-- the columns that are marked, ascending
pub record AreMarked (marks : List Bool) (found : List ℕ) : Type 0 where
  pub rising : AreRising found
  pub below : (k : ℕ) → k < length found → slice_index found k < length marks
  pub marked : (k : ℕ) → k < length found → slice_index_or marks (slice_index found k) false ≡ true
  pub all : (j : ℕ) → slice_index_or marks j false ≡ true → Contains found j

-- the number stands at place k of the list
abbrev pub IsAt : List ℕ → ℕ → ℕ → Type 0
IsAt xs x k = (k < length xs) × (slice_index xs k ≡ x)

-- the number isn't in the list
abbrev pub IsAbsent : List ℕ → ℕ → Type 0
IsAbsent xs x = (k : ℕ) → k < length xs → slice_index xs k ≢ x

-- these columns of a matrix with n columns go to columns below m
pub record GoTo (n m : ℕ) (columns : List ℕ) : Type 0 where
  pub many : length columns ≡ n
  pub rising : AreRising columns
  pub below : (k : ℕ) → k < length columns → slice_index columns k < m
