-- How the places of ascending columns are found.
use Rattle.std.specs.Prelude.{◌≡◌, ◌≢◌, ◌<◌, ◌≤◌, ℕ, List, length, slice_index, Option, Vec, IfSome}
use Rattle.sparse_rows.specs.Rows.{AreRising, LARGEST_SIZE}
use Rattle.std.specs.declared.alloc.Global.{Global}
use Rattle.triangular_solve.specs.declared.ascending_columns.TheConstants.{NONE}

-- column c stands at place k
abbrev pub IsPlaceOf : List ℕ → ℕ → ℕ → Type 0
IsPlaceOf columns c k = (k < length columns) × (slice_index columns k ≡ c)

-- the table has the place of each column of the list, and NONE elsewhere
pub record IsTable (columns table : List ℕ) : Type 0 where
  pub some : (c : ℕ) → c < length table → slice_index table c ≢ NONE →
      IsPlaceOf columns c (slice_index table c)
  pub every : (k : ℕ) → k < length columns → (slice_index columns k < length table)
      × (slice_index table (slice_index columns k) ≡ k)

-- the columns ascend, and the table is right where there is one
pub record HasTable (columns : List ℕ) (table : Option (Vec ℕ Global)) : Type 0 where
  pub rising : AreRising columns
  pub few : length columns ≤ LARGEST_SIZE
  pub right : IfSome table (λ t. IsTable columns t.items)
