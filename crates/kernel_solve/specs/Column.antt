-- Columns of a matrix as lists, and lists as matrices of one column.
use Rattle.std.specs.Prelude.{ℕ, List, length, slice_index}
use Rattle.residue_words.specs.Matrix.{Matrix, entry, list_of}
use Rattle.sparse_rows.specs.Rows.{matrix_by}

-- column j of a matrix
abbrev pub column_at : Matrix → ℕ → List ℕ
column_at A j = list_of A.height (λ i. entry A i j)

-- the first column of a matrix
abbrev pub column : Matrix → List ℕ
column A = column_at A 0

-- the matrix of one column with these entries
abbrev pub column_matrix : List ℕ → Matrix
column_matrix x = matrix_by (length x) 1 (λ i j. slice_index x i)
