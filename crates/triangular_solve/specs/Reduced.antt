-- What the pivots of a triangle leave of a row and of a matrix: Schur rows and the Schur complement (textbook; for sparse
-- elimination Bouillaguet, Delaplace and Voge, PASCO 2017).
use Rattle.std.specs.Prelude.{◌≡◌, ◌<◌, ◌+◌, ◌*◌, ◌%◌, ℕ, List, length, slice_index}
use Rattle.residue_words.specs.Residues.{IsPrime, sum_below}
use Rattle.residue_words.specs.Matrix.{Matrix, IsMatrix, IsVector, entry, row}
use Rattle.residue_words.specs.declared.plain.Pair.{Pair}
use Rattle.row_space.specs.Factors.{row_at, col_at}
use Rattle.pivot_table.specs.Order.{Triangular}
use Rattle.sparse_rows.specs.Rows.{ResidueRow}
use Rattle.triangular_solve.specs.Triangle.{TriangleState}
use Rattle.triangular_solve.specs.declared.reduced.Reduced.{Reduced}

-- what is left of a row, and the coefficients of the pivot rows in the order of the pairs
pub record Reduction : Type 0 where
  pub rest : List ℕ
  pub coefficients : List ℕ

-- 0 stands in each pivotal column
abbrev pub IsZeroAtPivots : List Pair → List ℕ → Type 0
IsZeroAtPivots qs w = (k : ℕ) → k < length qs → slice_index w (col_at qs k) ≡ 0

-- v is the rest plus the coefficients times the pivot rows, and the rest is 0 in all pivotal columns
pub record IsReduced (p : ℕ) (A : Matrix) (qs : List Pair) (v : List ℕ) (r : Reduction) : Type 0 where
  pub zero : IsZeroAtPivots qs r.rest
  pub sum : (j : ℕ) → j < A.width → slice_index v j
      ≡ (slice_index r.rest j + sum_below (length qs)
      (λ k. slice_index r.coefficients k * entry A (row_at qs k) j)) % p

-- w is the Schur row of v: it is 0 in all pivotal columns, and v is w plus a combination of the pivot rows
abbrev pub IsSchurRow : ℕ → Matrix → List Pair → List ℕ → List ℕ → Type 0
IsSchurRow p A qs v w = IsVector p A.width w
    × ((coefficients : List ℕ) × IsReduced p A qs v (record { rest = w; coefficients = coefficients }))

-- row i of A is the row of some pair
abbrev pub IsPivotRow : List Pair → ℕ → Type 0
IsPivotRow qs i = (k : ℕ) × (k < length qs) × (row_at qs k ≡ i)

-- B is A with the pivot rows set to 0 and each other row replaced by its Schur row
pub record IsComplement (p : ℕ) (A : Matrix) (qs : List Pair) (B : Matrix) : Type 0 where
  pub matrix : IsMatrix p B
  pub height : B.height ≡ A.height
  pub width : B.width ≡ A.width
  pub pivotal : (k j : ℕ) → k < length qs → j < A.width → entry B (row_at qs k) j ≡ 0
  pub others : (i : ℕ) → i < A.height → ¬ IsPivotRow qs i → IsSchurRow p A qs (row A i) (row B i)

-- for a prime modulus a row has at most one Schur row
abbrev pub SchurRowIsOne : Type 0
SchurRowIsOne = (p : ℕ) (A : Matrix) (qs : List Pair) (v w x : List ℕ) → IsPrime p → IsMatrix p A →
    Triangular A qs →
    IsSchurRow p A qs v w → IsSchurRow p A qs v x → w ≡ x

-- what callers see of the room in which rows are reduced: the sizes that it is made for
pub record Workspace : Type 0 where
  pub modulus : ℕ
  pub pairs : ℕ
  pub width : ℕ

-- the sizes of a triangle
abbrev pub workspace_of : TriangleState → Workspace
workspace_of t = record { modulus = t.rows.modulus; pairs = length t.pairs; width = t.rows.matrix.width }

-- the rows that a row is reduced to
abbrev pub reduction_of : Reduced → Reduction
reduction_of r = record { rest = r.rest.row; coefficients = r.coefficients.row }

-- rows of the modulus and the sizes of those that a row is reduced to
pub record HasSizesOf (t : TriangleState) (r : Reduced) : Type 0 where
  pub rest_modulus : r.rest.modulus ≡ t.rows.modulus
  pub rest_width : length r.rest.row ≡ t.rows.matrix.width
  pub coefficients_modulus : r.coefficients.modulus ≡ t.rows.modulus
  pub coefficients_count : length r.coefficients.row ≡ length t.pairs

-- the modulus and size of what is left of a row by a triangle's pivots; for any modulus it is 0 in their columns
pub record FitsRest (t : TriangleState) (w : ResidueRow) : Type 0 where
  pub modulus : w.modulus ≡ t.rows.modulus
  pub vector : IsVector t.rows.modulus t.rows.matrix.width w.row
  pub zero : IsZeroAtPivots t.pairs w.row

-- the same of a reduced row, and of the coefficients
pub record FitsReduced (t : TriangleState) (r : Reduced) : Type 0 where
  pub rest : FitsRest t r.rest
  pub coefficients_modulus : r.coefficients.modulus ≡ t.rows.modulus
  pub coefficients : IsVector t.rows.modulus (length t.pairs) r.coefficients.row
