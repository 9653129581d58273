-- Rows by their nonzero entries, which stand in any order.
use Rattle.std.specs.Prelude.{◌≡◌, ◌≢◌, ◌<◌, ◌++◌, ℕ, List, length, slice_index}
use Rattle.std.specs.List.{Contains}
use Rattle.sparse_rows.specs.Rows.{ResidueRow}
use Rattle.sparse_rows.specs.Stored.{spread}
use Rattle.lead_rows.specs.Accumulator.{AreLimited}

-- no column stands twice
abbrev pub HaveDistinctColumns : List ℕ → Type 0
HaveDistinctColumns columns = (k t : ℕ) → k < t → t < length columns →
    slice_index columns k ≢ slice_index columns t

-- as many values as columns; the columns are distinct and below n, the values are positive and below p
pub record IsScattered (p n : ℕ) (cs vs : List ℕ) : Type 0 where
  pub long : length cs ≡ length vs
  pub distinct : HaveDistinctColumns cs
  pub below : (k : ℕ) → k < length cs → slice_index cs k < n
  pub positive : (k : ℕ) → k < length vs → 0 < slice_index vs k
  pub residues : (k : ℕ) → k < length vs → slice_index vs k < p

-- cs' and vs' are cs and vs with columns and values of the row behind them
pub record ListsBehind (r : ResidueRow) (cs vs cs' vs' : List ℕ) : Type 0 where
  pub columns : List ℕ
  pub values : List ℕ
  pub scattered : IsScattered r.modulus (length r.row) columns values
  pub row : spread (length r.row) columns values ≡ r.row
  pub all_columns : cs' ≡ cs ++ columns
  pub all_values : vs' ≡ vs ++ values

-- sums below the limit, of which each that is not 0 stands at a column that is touched
pub record IsTouched (p limit : ℕ) (sums touched : List ℕ) : Type 0 where
  pub limited : AreLimited p limit sums
  pub below : (t : ℕ) → t < length touched → slice_index touched t < length sums
  pub covers : (j : ℕ) → j < length sums → slice_index sums j ≢ 0 → Contains touched j
