-- Which rows are pivots' rows.
use Rattle.std.specs.Prelude.{◌≡◌, ◌≢◌, ◌<◌, ◌≤◌, ℕ, List, length, slice_index}
use Rattle.residue_words.specs.declared.plain.Pair.{Pair}
use Rattle.row_space.specs.Factors.{row_at}
use Rattle.sparse_rows.specs.Rows.{AreRising, LARGEST_SIZE}
use Rattle.schur_rows.specs.declared.pivot_numbers.PivotNumbers.{PivotNumbers}
use Rattle.schur_rows.specs.declared.pivot_numbers.TheConstants.{NONE}

-- row i is that of pair k
abbrev pub IsRowOfPair : List Pair → ℕ → ℕ → Type 0
IsRowOfPair qs i k = (k < length qs) × (row_at qs k ≡ i)

-- beside each of the rows the number of its pair stands where it belongs to one of the first n, else NONE; the row of each
-- of these is there
pub record AreNumbersOf (qs : List Pair) (rows : List ℕ) (n : ℕ) (numbers : List ℕ) : Type 0 where
  pub long : length numbers ≡ length rows
  pub some : (t : ℕ) → t < length rows → slice_index numbers t ≢ NONE →
      (slice_index numbers t < n) × (row_at qs (slice_index numbers t) ≡ slice_index rows t)
  pub every : (k : ℕ) → k < n → (t : ℕ) × (t < length rows)
      × (slice_index rows t ≡ row_at qs k) × (slice_index numbers t ≡ k)

-- the rows ascend, and beside each its pair's number stands, or NONE
pub record HasNumbers (qs : List Pair) (r : PivotNumbers) : Type 0 where
  pub few : length qs ≤ LARGEST_SIZE
  pub rising : AreRising r.rows.items
  pub numbers : AreNumbersOf qs r.rows.items (length qs) r.numbers.items
