-- Where the rows of a matrix begin, as they are listed and sorted.
use Rattle.std.specs.Prelude.{◌≡◌, ◌<◌, ◌≤◌, ℕ, List, length, slice_index_or}
use Rattle.std.specs.List.{Contains}
use Rattle.residue_words.specs.Matrix.{Matrix}
use Rattle.pivot_table.specs.History.{row_weight}
use Rattle.fl_pivots.specs.declared.beginning.Beginning.{Beginning}
use Rattle.pivot_table.specs.Leftmost.{BeginsAt}

-- b says where row r begins
pub record IsBeginning (A : Matrix) (r : ℕ) (b : Beginning) : Type 0 where
  pub row : b.row ≡ r
  pub begins : BeginsAt A r b.column
  pub weight : b.weight ≡ row_weight A r

-- each item says where its row begins, and there is one for each of the first n rows that has an entry
pub record AreBeginnings (A : Matrix) (n : ℕ) (list : List Beginning) : Type 0 where
  pub each : (b : Beginning) → Contains list b → IsBeginning A b.row b
  pub every : (r c : ℕ) → r < n → BeginsAt A r c → (b : Beginning) × Contains list b × (b.row ≡ r)

-- x stands before y, or where y does: the column decides, or else the weight, or else the row
pub record IsNoLater (x y : Beginning) : Type 0 where
  pub column : x.column ≤ y.column
  pub weight : x.column ≡ y.column → x.weight ≤ y.weight
  pub row : x.column ≡ y.column → x.weight ≡ y.weight → x.row ≤ y.row

abbrev pub AreSorted : List Beginning → Type 0
AreSorted list = (i j : ℕ) (d : Beginning) → i ≤ j → j < length list →
    IsNoLater (slice_index_or list i d) (slice_index_or list j d)
