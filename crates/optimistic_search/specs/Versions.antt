-- The versions of a history's pairs: how many pairs a worker had seen when it claimed the row.
use Rattle.std.specs.Prelude.{◌≡◌, ◌<◌, ◌≤◌, ℕ, Option, None, Some, List, length, slice_index}
use Rattle.residue_words.specs.Matrix.{Matrix}
use Rattle.residue_words.specs.declared.plain.Pair.{Pair}
use Rattle.pivot_table.specs.Board.{SeatState}
use Rattle.pivot_table.specs.Closing.{StartsState, start_at}
use Rattle.pivot_table.specs.Core.{Carries, Core, Reached, StandsAt}
use Rattle.pivot_table.specs.History.{StartsWith}
use Rattle.pivot_table.specs.Last.{IsLast}
use Rattle.pivot_table.specs.declared.closed_board.Closed.{Closed}

-- from place `from` on and before place `to` each version is the place itself
abbrev pub AreOwnBetween : ℕ → ℕ → List ℕ → Type 0
AreOwnBetween from to versions = (k : ℕ) → from ≤ k → k < to → slice_index versions k ≡ k

-- a version for each of so many pairs: its place
pub record AreOwnPlaces (count : ℕ) (versions : List ℕ) : Type 0 where
  pub long : length versions ≡ count
  pub places : AreOwnBetween 0 count versions

-- a version for each pair of a history that begins with the pairs `first`, and none above its place. Workers that began with `first`
-- came to a last state, with whose history this one begins: the version of each pair that they published is the start that the row
-- carries there, and that of each other pair is its place
pub record TellsStarts (A : Matrix) (first history : List Pair) (versions : List ℕ) : Type 0 where
  pub last : Core
  pub reached : Reached A first last
  pub begins : StartsWith history last.history
  pub long : length versions ≡ length history
  pub low : (k : ℕ) → k < length history → slice_index versions k ≤ k
  pub given : AreOwnBetween 0 (length first) versions
  pub started : (k : ℕ) (q : Pair) → length first ≤ k → StandsAt last.history k q →
      Carries last.rows q.row (slice_index versions k)
  pub swept : AreOwnBetween (length last.history) (length history) versions

-- the starts that are left of a board that began with the pairs `first`, with whose history this one begins
pub record AreStartsOf (A : Matrix) (first history : List Pair) (starts : StartsState) : Type 0 where
  pub seat : SeatState
  pub left : Closed
  pub last : IsLast A first seat left
  pub is : starts ≡ left.starts
  pub begins : StartsWith history left.book.pairs

-- the start at a place, or the place itself if there is none
abbrev pub start_or : ℕ → Option ℕ → ℕ
start_or k None = k
start_or k (Some n) = n

pub record AreStarted (starts : StartsState) (count : ℕ) (versions : List ℕ) : Type 0 where
  pub long : length versions ≡ count
  pub each : (k : ℕ) → k < count → slice_index versions k ≡ start_or k (start_at starts k)
