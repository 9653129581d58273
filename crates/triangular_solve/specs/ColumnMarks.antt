-- Marks at the columns in which some of several rows has an entry.
use Rattle.std.specs.Prelude.{◌≡◌, ◌≢◌, ◌<◌, ◌⊎◌, ℕ, List, length, slice_index}
use Rattle.std.specs.List.{Contains}
use Rattle.residue_words.specs.Matrix.{Matrix, entry}
use Rattle.residue_words.specs.declared.plain.Pair.{Pair}
use Rattle.row_space.specs.Factors.{row_at}
use Rattle.sparse_rows.specs.Rows.{AreRising}

-- the columns are marked, and those that were before
pub record MarksColumns (columns old new : List ℕ) : Type 0 where
  pub long : length new ≡ length old
  pub kept : (j : ℕ) → slice_index old j ≢ 0 → slice_index new j ≢ 0
  pub these : (j : ℕ) → Contains columns j → slice_index new j ≢ 0
  pub only : (j : ℕ) → slice_index new j ≢ 0 → (slice_index old j ≢ 0) ⊎ Contains columns j

-- just the columns are marked in which the row of one of the first n pairs has an entry
pub record AreMarksOf (A : Matrix) (qs : List Pair) (n : ℕ) (marks : List ℕ) : Type 0 where
  pub long : length marks ≡ A.width
  pub some : (j : ℕ) → slice_index marks j ≢ 0 → (k : ℕ) × (k < n) × (entry A (row_at qs k) j ≢ 0)
  pub all : (k j : ℕ) → k < n → entry A (row_at qs k) j ≢ 0 → slice_index marks j ≢ 0

-- the columns are those that are marked, ascending
pub record ListsMarks (marks columns : List ℕ) : Type 0 where
  pub rising : AreRising columns
  pub marked : (k : ℕ) → k < length columns → slice_index marks (slice_index columns k) ≢ 0
  pub all : (j : ℕ) → slice_index marks j ≢ 0 → Contains columns j
