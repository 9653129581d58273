-- One round of an elimination by pivots in triangular order: what they leave of a matrix, with the coefficients of their rows
-- (the Schur complement, textbook; by rounds Bouillaguet, Delaplace and Voge, PASCO 2017).
use Rattle.std.specs.Prelude.{◌≡◌, ◌≢◌, ◌<◌, ℕ, List, length, map}
use Rattle.residue_words.specs.Matrix.{Matrix, IsMatrix, entry, row}
use Rattle.residue_words.specs.declared.plain.Pair.{Pair}
use Rattle.row_space.specs.Factors.{row_at}
use Rattle.sparse_rows.specs.Rows.{ResidueMatrix, selected}
use Rattle.triangular_solve.specs.Reduced.{IsComplement, IsReduced}
use Rattle.triangular_solve.specs.Triangle.{TriangleState}
use Rattle.schur_rows.specs.declared.round.SchurRows.{SchurRows}

-- it has the modulus and the sizes of the triangle's matrix
pub record FitsComplement (t : TriangleState) (B : ResidueMatrix) : Type 0 where
  pub modulus : B.modulus ≡ t.rows.modulus
  pub matrix : IsMatrix t.rows.modulus B.matrix
  pub height : B.matrix.height ≡ t.rows.matrix.height
  pub width : B.matrix.width ≡ t.rows.matrix.width

-- so have the rows that are left; for each there are as many coefficients as pivots
pub record FitsRound (t : TriangleState) (s : SchurRows) : Type 0 where
  pub rest : FitsComplement t s.rows
  pub modulus : s.coefficients.modulus ≡ t.rows.modulus
  pub matrix : IsMatrix t.rows.modulus s.coefficients.matrix
  pub height : s.coefficients.matrix.height ≡ t.rows.matrix.height
  pub width : s.coefficients.matrix.width ≡ length t.pairs

-- row i of the matrix is its coefficients times the pivot rows and what is left of it
abbrev pub SplitsRow : TriangleState → SchurRows → ℕ → Type 0
SplitsRow t s i = IsReduced t.rows.modulus t.rows.matrix t.pairs (row t.rows.matrix i)
    (record { rest = row s.rows.matrix i; coefficients = row s.coefficients.matrix i })

-- what is left is the complement, and each row is split by its coefficients; a pivot row is itself
pub record IsRound (t : TriangleState) (s : SchurRows) : Type 0 where
  pub fits : FitsRound t s
  pub complement : IsComplement t.rows.modulus t.rows.matrix t.pairs s.rows.matrix
  pub one : (k : ℕ) → k < length t.pairs → entry s.coefficients.matrix (row_at t.pairs k) k ≡ 1
  pub alone : (k i : ℕ) → k < length t.pairs → i < length t.pairs → i ≢ k →
      entry s.coefficients.matrix (row_at t.pairs k) i ≡ 0
  pub each : (i : ℕ) → i < t.rows.matrix.height → SplitsRow t s i

-- the rows of the pivots, in their order
abbrev pub pivot_rows : Matrix → List Pair → Matrix
pivot_rows A qs = selected A (map (λ q. q.row) qs)
