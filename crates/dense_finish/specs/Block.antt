-- The dense block of a matrix: its rows, and what they are.
use Rattle.std.specs.Prelude.{◌≡◌, ◌<◌, ◌≤◌, ℕ, List, length, slice_index}
use Rattle.residue_words.specs.Matrix.{Matrix, IsMatrix, entry}
use Rattle.sparse_rows.specs.Rows.{AreBelow, AreFilled, AreOccupied, AreRising, ResidueMatrix, LARGEST_SIZE}
use Rattle.dense_rows.specs.Rows.{AreVectors, entry_of}
use Rattle.dense_finish.specs.declared.elimination.RowRange.{RowRange}

-- the entries of A at these rows and columns
pub record IsBlock (p : ℕ) (A : Matrix) (rows columns : List ℕ) (block : List (List ℕ)) : Type 0 where
  pub long : length block ≡ length rows
  pub vectors : AreVectors p (length columns) block
  pub each : (t j : ℕ) → t < length block → j < length columns →
      entry_of block t j ≡ entry A (slice_index rows t) (slice_index columns j)

-- some rows and columns of a matrix of this modulus, height and width, and the entries there
pub record DenseBlock : Type 0 where
  pub modulus : ℕ
  pub height : ℕ
  pub width : ℕ
  pub rows : List ℕ
  pub columns : List ℕ
  pub entries : List (List ℕ)

-- the same rows and columns with other entries
abbrev pub with_entries : DenseBlock → List (List ℕ) → DenseBlock
with_entries b entries = record {
  modulus = b.modulus;
  height = b.height;
  width = b.width;
  rows = b.rows;
  columns = b.columns;
  entries = entries;
}

-- the rows and columns ascend, and the entries are residues
pub record IsDense (block : DenseBlock) : Type 0 where
  pub modulus : 2 ≤ block.modulus
  pub low : block.height ≤ LARGEST_SIZE
  pub narrow : block.width ≤ LARGEST_SIZE
  pub rows_few : length block.rows ≤ LARGEST_SIZE
  pub rows_below : AreBelow block.height block.rows
  pub rows_rising : AreRising block.rows
  pub columns_few : length block.columns ≤ LARGEST_SIZE
  pub columns_below : AreBelow block.width block.columns
  pub columns_rising : AreRising block.columns
  pub long : length block.entries ≡ length block.rows
  pub residues : AreVectors block.modulus (length block.columns) block.entries

-- the block of the rows and columns of A that have an entry
pub record IsBlockOf (A : ResidueMatrix) (block : DenseBlock) : Type 0 where
  pub modulus : block.modulus ≡ A.modulus
  pub height : block.height ≡ A.matrix.height
  pub width : block.width ≡ A.matrix.width
  pub sound : IsMatrix A.modulus A.matrix
  pub filled : AreFilled A.matrix block.rows
  pub occupied : AreOccupied A.matrix block.columns
  pub entries : IsBlock A.modulus A.matrix block.rows block.columns block.entries

-- these are some of the block's rows, or none
pub record AreRowsOf (rows : List (List ℕ)) (range : RowRange) : Type 0 where
  pub order : range.start ≤ range.end
  pub inside : range.end ≤ length rows

-- these are the block's last rows
pub record AreLastRowsOf (rows : List (List ℕ)) (range : RowRange) : Type 0 where
  pub order : range.start ≤ range.end
  pub last : range.end ≡ length rows
