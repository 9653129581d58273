-- A basis of what a round leaves, made chunk by chunk.
use Rattle.std.specs.Prelude.{◌≡◌, ◌≢◌, ◌<◌, ◌≤◌, ℕ, false, List, length, slice_index, Contains}
use Rattle.residue_words.specs.Residues.{IsPrime}
use Rattle.residue_words.specs.Matrix.{Matrix, IsMatrix, entry, row}
use Rattle.residue_words.specs.declared.plain.Pair.{Pair}
use Rattle.row_space.specs.Echelon.{IsIndependent, SameSpan}
use Rattle.row_space.specs.Factors.{col_at}
use Rattle.sparse_rows.specs.Rows.{ResidueMatrix, above}
use Rattle.triangular_solve.specs.Reduced.{IsComplement}
use Rattle.triangular_solve.specs.Triangle.{TriangleState}
use Rattle.schur_rows.specs.Parts.{IsPartTo}
use Rattle.schur_rows.specs.declared.round.SchurRows.{SchurRows}

-- rows of the width of the triangle's matrix, no more than it has
pub record FitsBasis (t : TriangleState) (U : ResidueMatrix) : Type 0 where
  pub modulus : U.modulus ≡ t.rows.modulus
  pub matrix : IsMatrix t.rows.modulus U.matrix
  pub width : U.matrix.width ≡ t.rows.matrix.width
  pub height : U.matrix.height ≤ t.rows.matrix.height

-- for a prime modulus they are independent and have the row space of the complement
pub record IsRestBasis (t : TriangleState) (U : ResidueMatrix) : Type 0 where
  pub fits : FitsBasis t U
  pub independent : IsPrime t.rows.modulus → IsIndependent t.rows.modulus U.matrix
  pub span : IsPrime t.rows.modulus → (B : Matrix) × IsComplement t.rows.modulus t.rows.matrix t.pairs B
      × SameSpan t.rows.modulus B U.matrix

-- rows of A's width, no more than it has, which for a prime modulus are independent and have its row space
pub record IsBasisOf (A U : ResidueMatrix) : Type 0 where
  pub modulus : U.modulus ≡ A.modulus
  pub matrix : IsMatrix A.modulus U.matrix
  pub width : U.matrix.width ≡ A.matrix.width
  pub height : U.matrix.height ≤ A.matrix.height
  pub independent : IsPrime A.modulus → IsIndependent A.modulus U.matrix
  pub span : IsPrime A.modulus → SameSpan A.modulus A.matrix U.matrix

-- the same of the rows of A and those of B below them, if both are residues
abbrev pub IsBasisOfBoth : ResidueMatrix → ResidueMatrix → ResidueMatrix → Type 0
IsBasisOfBoth A B U = IsMatrix A.modulus A.matrix → IsMatrix A.modulus B.matrix →
    IsBasisOf (record { modulus = A.modulus; matrix = above A.matrix B.matrix }) U

-- the same for what is left of the rows up to `to`
pub record IsBasisUpTo (t : TriangleState) (to : ℕ) (U : ResidueMatrix) : Type 0 where
  pub modulus : U.modulus ≡ t.rows.modulus
  pub matrix : IsMatrix t.rows.modulus U.matrix
  pub width : U.matrix.width ≡ t.rows.matrix.width
  pub height : U.matrix.height ≤ to
  pub part : SchurRows
  pub is_part : IsPartTo t false 0 to part
  pub independent : IsPrime t.rows.modulus → IsIndependent t.rows.modulus U.matrix
  pub span : IsPrime t.rows.modulus → SameSpan t.rows.modulus part.rows.matrix U.matrix

-- next is a basis with these rows too: of what is left up to `to`, if the old one is up to where they begin
abbrev pub IsBasisWith : SchurRows → ResidueMatrix → ResidueMatrix → Type 0
IsBasisWith left old next = (t : TriangleState) (from to : ℕ) → IsBasisUpTo t from old → IsPartTo t false from to left → IsBasisUpTo t to next

-- of the n entries of a row those other than 0 stand in these columns
abbrev pub IsInColumns : List ℕ → ℕ → List ℕ → Type 0
IsInColumns columns n v = (j : ℕ) → j < n → slice_index v j ≢ 0 → Contains columns j

-- so do those of each row of A
abbrev pub AreInColumns : List ℕ → Matrix → Type 0
AreInColumns columns A = (i : ℕ) → i < A.height → IsInColumns columns A.width (row A i)

-- U has at least as many rows as there are columns in which it or B has an entry
abbrev pub IsFullFor : Matrix → Matrix → Type 0
IsFullFor B U = (columns : List ℕ) × (length columns ≤ U.height) × AreInColumns columns U
    × AreInColumns columns B

-- column j is that of some pair
abbrev pub IsPivotColumn : List Pair → ℕ → Type 0
IsPivotColumn qs j = (k : ℕ) × (k < length qs) × (col_at qs k ≡ j)

-- the entries of A in columns of no pair stand in n columns at most
abbrev pub HasColumnsLeft : Matrix → List Pair → ℕ → Type 0
HasColumnsLeft A qs n = (columns : List ℕ) × (length columns ≤ n) × ((i j : ℕ) → i < A.height → j < A.width →
    entry A i j ≢ 0 → ¬ IsPivotColumn qs j → Contains columns j)
