-- Flat rows: pivot rows less multiples of those behind them, each 1 at its own pivot and 0 at all others.
use Rattle.std.specs.Prelude.{◌≡◌, ◌<◌, ◌≤◌, ◌+◌, ◌-◌, ◌*◌, ◌%◌, ℕ, List, length, slice_index, slice_set}
use Rattle.residue_words.specs.Residues.{IsPrime}
use Rattle.residue_words.specs.Matrix.{IsCombination, IsVector, entry, row}
use Rattle.row_space.specs.Rows.{DiffersBy}
use Rattle.sparse_rows.specs.Rows.{AddsAt, ResidueRow}
use Rattle.triangular_solve.specs.PivotRows.{ArePivotsReduced, IsSplitRow, PlacedRows}
use Rattle.triangular_solve.specs.declared.flat_rows.FlatRows.{FlatRows}

-- the t-th of them, counted from the last pivot back, with its 1
abbrev pub flat_row : FlatRows → ℕ → List ℕ
flat_row flat t = slice_set (row flat.tails.matrix t) (flat.count - (t + 1)) 1

-- those of the last pivots: each is 0 at all pivots but its own, and for a prime modulus a combination of the pivot rows
pub record AreFlat (placed : PlacedRows) (flat : FlatRows) : Type 0 where
  pub count : flat.count ≡ placed.rows.matrix.height
  pub modulus : flat.tails.modulus ≡ placed.rows.modulus
  pub width : flat.tails.matrix.width ≡ length placed.columns
  pub low : flat.tails.matrix.height ≤ flat.count
  pub alone : (t i : ℕ) → t < flat.tails.matrix.height → i < flat.count → entry flat.tails.matrix t i ≡ 0
  pub within : IsPrime placed.rows.modulus → (t : ℕ) → t < flat.tails.matrix.height →
      IsCombination placed.rows.modulus placed.rows.matrix (flat_row flat t)

-- those of all pivots
abbrev pub AreAllFlat : PlacedRows → FlatRows → Type 0
AreAllFlat placed flat = AreFlat placed flat × (flat.tails.matrix.height ≡ flat.count)

-- a multiple of the row r was added
pub record AddsRowTimes (by : ℕ) (r : List ℕ) (old new : ResidueRow) : Type 0 where
  pub modulus : new.modulus ≡ old.modulus
  pub vector : IsVector old.modulus (length old.row) new.row
  pub sums : (j : ℕ) → j < length old.row → slice_index new.row j
      ≡ (slice_index old.row j + by * slice_index r j) % old.modulus

-- a value at a place came to the sums; at a pivot it is taken away by its flat row, of which the rest came
pub record TakesIn (flat : FlatRows) (place value : ℕ) (old new : ResidueRow) : Type 0 where
  pub other : flat.count ≤ place → AddsAt place value old new
  pub pivotal : place < flat.count → AddsRowTimes ((old.modulus - value) % old.modulus)
      (row flat.tails.matrix (flat.count - (place + 1))) old new

-- the flat row of the pivot at a place but for its 1
pub record IsFlatTail (placed : PlacedRows) (place : ℕ) (tail : List ℕ) : Type 0 where
  pub vector : IsVector placed.rows.modulus (length placed.columns) tail
  pub zero : (k : ℕ) → k < placed.rows.matrix.height → slice_index tail k ≡ 0
  pub within : IsPrime placed.rows.modulus →
      IsCombination placed.rows.modulus placed.rows.matrix (slice_set tail place 1)

-- what is left of v by the pivot rows: 0 in the columns of pivots, and for a prime modulus v less a combination of them
pub record IsFlatRest (placed : PlacedRows) (v rest : List ℕ) : Type 0 where
  pub vector : IsVector placed.rows.modulus (length v) rest
  pub zero : (k : ℕ) → k < placed.rows.matrix.height → slice_index rest (slice_index placed.columns k) ≡ 0
  pub reduced : IsPrime placed.rows.modulus → (coefficients : List ℕ)
      × ArePivotsReduced placed v rest coefficients

-- s is x less a combination of the pivot rows, for a prime modulus, and 0 at each pivot
pub record IsFlattened (placed : PlacedRows) (x s : List ℕ) : Type 0 where
  pub residues : IsVector placed.rows.modulus (length placed.columns) s
  pub zero : (k : ℕ) → k < placed.rows.matrix.height → slice_index s k ≡ 0
  pub differs : IsPrime placed.rows.modulus → DiffersBy placed.rows.modulus placed.rows.matrix x s

-- the sums are what the pivots leave of the entries of v in the columns of the pivot rows, and the others stand in `outer`
pub record IsTakenRow (placed : PlacedRows) (v sums outer : List ℕ) : Type 0 where
  pub inner : List ℕ
  pub split : IsSplitRow placed.columns v inner outer
  pub vector : IsVector placed.rows.modulus (length placed.columns) inner
  pub flattened : IsFlattened placed inner sums
