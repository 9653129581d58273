-- What cells stand for in a matrix.
use Rattle.std.specs.Prelude.{◌<◌, ◌≤◌, ℕ, List, All}
use Rattle.residue_words.specs.declared.modulus.TheConstants.{MODULUS_BOUND}
use Rattle.column_lists.specs.declared.sizes.TheConstants.{LARGEST_SIZE}
use Rattle.matrix_cells.specs.declared.values_at_places.Cell.{Cell}
use Rattle.sparse_rows.specs.Rows.{Triple, matrix_by}
use Rattle.residue_words.specs.Matrix.{Matrix}
use Rattle.matrix_cells.specs.Cells.{IsWithin, column_of, row_of, weight}
pub use Rattle.matrix_cells.specs.Cells.{place_of}

-- a cell as its row, its column and its value
abbrev pub triple_of : Cell → Triple
triple_of c = record { i = row_of c; j = column_of c; v = c.val }

-- the matrix of m x n with these sums at its places
abbrev pub matrix_of_cells : ℕ → ℕ → List Cell → Matrix
matrix_of_cells m n cells = matrix_by m n (λ i j. weight (place_of i j) cells)

-- cells pushed for a matrix of m x n modulo p
pub record ArePushed (p m n : ℕ) (cells : List Cell) : Type 0 where
  pub height_small : m ≤ LARGEST_SIZE
  pub width_small : n ≤ LARGEST_SIZE
  pub two_or_more : 2 ≤ p
  pub in_range : p < MODULUS_BOUND
  pub within : All (IsWithin m n) cells
  pub residues : All (λ c. c.val < p) cells
