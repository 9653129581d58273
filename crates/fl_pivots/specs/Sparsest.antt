-- For each column the sparsest row that begins there, in a table.
use Rattle.std.specs.Prelude.{◌≡◌, ◌≢◌, ◌<◌, ◌≤◌, ℕ, List, length, slice_index_or}
use Rattle.residue_words.specs.Matrix.{Matrix}
use Rattle.pivot_table.specs.History.{row_weight}
use Rattle.pivot_table.specs.Leftmost.{BeginsAt}
use Rattle.fl_pivots.specs.declared.sparsest.Sparsest.{Sparsest}
use Rattle.fl_pivots.specs.declared.sparsest.TheConstants.{NONE}

-- of the first n rows that begin at column c, x is one of the fewest nonzero entries, and of these the lowest; the weight is NONE where
-- there is no such row
pub record IsSparsestOf (A : Matrix) (n c : ℕ) (x : Sparsest) : Type 0 where
  pub is_row : x.weight ≢ NONE → (x.row < n) × BeginsAt A x.row c × (x.weight ≡ row_weight A x.row)
  pub fewest : (s : ℕ) → s < n → BeginsAt A s c → x.weight ≤ row_weight A s
  pub lowest : (s : ℕ) → s < n → BeginsAt A s c → row_weight A s ≡ x.weight → x.row ≤ s

-- such an item for each column
pub record AreSparsest (A : Matrix) (n : ℕ) (table : List Sparsest) : Type 0 where
  pub long : length table ≡ A.width
  pub each : (c : ℕ) (x : Sparsest) → c < A.width → IsSparsestOf A n c (slice_index_or table c x)
