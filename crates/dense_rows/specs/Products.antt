-- Sums of products of coefficients with rows, added to other rows.
use Rattle.std.specs.Prelude.{◌≡◌, ◌<◌, ◌≤◌, ◌+◌, ◌-◌, ◌*◌, ◌%◌, ℕ, List, length, slice_index}
use Rattle.residue_words.specs.Residues.{sum_below}
use Rattle.dense_rows.specs.Rows.{block_row, entry_of}
use Rattle.dense_rows.specs.declared.products.Columns.{Columns}
use Rattle.dense_rows.specs.declared.products.Run.{Run}

-- the sum of the products of the coefficients c with the entries of these rows at column j
abbrev pub products : List ℕ → List (List ℕ) → Run → ℕ → ℕ
products c rows run j = sum_below run.count (λ i.
    slice_index c (run.first + i) * entry_of rows (run.first + i) j)

-- the same for each row of coefficients
abbrev pub products_of : List (List ℕ) → List (List ℕ) → Run → ℕ → ℕ → ℕ
products_of by rows run t j = products (block_row by t) rows run j

abbrev pub run_of : ℕ → ℕ → Run
run_of s n = record { first = s; count = n }

abbrev pub columns_of : ℕ → ℕ → Columns
columns_of a b = record { start = a; end = b }

-- a tile: the entries of these rows at the eight columns from this one on
abbrev pub IsTile : ℕ → List (List ℕ) → List (List ℕ) → Type 0
IsTile start rows tile = (k l : ℕ) → k < length rows → l < 8 → entry_of tile k l ≡ entry_of rows k (start + l)

-- the sums of products with a tile whose first column is this one
abbrev pub tile_products : List (List ℕ) → List (List ℕ) → Run → ℕ → ℕ → ℕ → ℕ
tile_products by tile run start t j = products_of by tile run t (j - start)

-- coefficients of 32 rows below 2^32, and sums of their products with rows of a tile of 64 below 2^64
pub record AreSmall (by tile : List (List ℕ)) (run : Run) : Type 0 where
  pub long : length tile ≡ 64
  pub inside : run.first + run.count ≤ 64
  pub coefficients : (t k : ℕ) → t < 32 → entry_of by t k < 4294967296
  pub sums : (t l : ℕ) → t < 32 → l < 8 → products_of by tile run t l < 18446744073709551616

-- new is the row old with v at these columns, from the first on
pub record IsWritten (columns : Columns) (v old new : List ℕ) : Type 0 where
  pub long : length new ≡ length old
  pub written : (j : ℕ) → columns.start ≤ j → j < columns.end →
      slice_index new j ≡ slice_index v (j - columns.start)
  pub before : (j : ℕ) → j < columns.start → slice_index new j ≡ slice_index old j
  pub behind : (j : ℕ) → columns.end ≤ j → slice_index new j ≡ slice_index old j

-- new is the row old with the residues of old and f at these columns
pub record AddsBetween (p : ℕ) (columns : Columns) (f : ℕ → ℕ) (old new : List ℕ) : Type 0 where
  pub long : length new ≡ length old
  pub added : (j : ℕ) → columns.start ≤ j → j < columns.end →
      slice_index new j ≡ (slice_index old j + f j) % p
  pub before : (j : ℕ) → j < columns.start → slice_index new j ≡ slice_index old j
  pub behind : (j : ℕ) → columns.end ≤ j → slice_index new j ≡ slice_index old j

-- each of the rows
pub record AddsToEach (p : ℕ) (columns : Columns) (f : ℕ → ℕ → ℕ) (old new : List (List ℕ)) : Type 0 where
  pub long : length new ≡ length old
  pub each : (t : ℕ) → t < length old → AddsBetween p columns (f t) (block_row old t) (block_row new t)
