-- What each call answers of the matrix that it was given.
use Rattle.std.specs.Prelude.{◌≡◌, ◌<◌, ◌≤◌, ◌*◌, ◌⊎◌, ℕ, List}
use Rattle.residue_words.specs.Residues.{IsPrime}
use Rattle.residue_words.specs.Matrix.{IsMatrix}
use Rattle.residue_words.specs.declared.plain.Pair.{Pair}
use Rattle.row_space.specs.Echelon.{HasRank, IsRref}
use Rattle.row_space.specs.Kernel.{IsKernel}
use Rattle.sparse_rows.specs.Rows.{ResidueMatrix, transposed, LARGEST_SIZE}
use Rattle.pivot_table.specs.Selected.{Selected}
use Rattle.kernel_solve.specs.Column.{column}
use Rattle.spasm_lib.specs.Inversion.{HasInversionShape, IsInversion}
use Rattle.spasm_lib.specs.Solved.{HasSolutionShape, IsSolved}
use Rattle.spasm_lib.specs.declared.outcome.Inverse.{Inverse}
use Rattle.spasm_lib.specs.declared.outcome.Inverse.TheVariants as inverse
use Rattle.spasm_lib.specs.declared.outcome.Solution.{Solution}
use Rattle.spasm_lib.specs.declared.outcome.Solution.TheVariants as solution
use Rattle.spasm_c.specs.Given.{IsSoundInput, given_matrix}
use Rattle.spasm_c.specs.declared.given.Given.{Given}

-- E has residues, the width that is named, and no more rows than that
pub record HasSizes (p n : ℕ) (E : ResidueMatrix) : Type 0 where
  pub residues : IsMatrix p E.matrix
  pub width : E.matrix.width ≡ n
  pub height : E.matrix.height ≤ n

-- r is no more than height and width, and for a prime modulus the rank
pub record IsRankOf (a : Given) (r : ℕ) : Type 0 where
  pub sound : IsSoundInput a
  pub at_most_height : r ≤ a.height
  pub at_most_width : r ≤ a.width
  pub rank : IsPrime a.modulus → HasRank a.modulus (given_matrix a) r

-- E is the reduced row echelon form for a prime modulus
pub record IsRrefOf (a : Given) (E : ResidueMatrix) : Type 0 where
  pub sound : IsSoundInput a
  pub sizes : HasSizes a.modulus a.width E
  pub rref : IsPrime a.modulus → IsRref a.modulus (given_matrix a) E.matrix

-- K is the kernel basis for a prime modulus
pub record IsKernelOf (a : Given) (K : ResidueMatrix) : Type 0 where
  pub sound : IsSoundInput a
  pub sizes : HasSizes a.modulus a.width K
  pub kernel : IsPrime a.modulus → IsKernel a.modulus (given_matrix a) K.matrix

-- K is the basis of the left kernel for a prime modulus
pub record IsLeftKernelOf (a : Given) (K : ResidueMatrix) : Type 0 where
  pub sound : IsSoundInput a
  pub sizes : HasSizes a.modulus a.height K
  pub kernel : IsPrime a.modulus → IsKernel a.modulus (transposed (given_matrix a)) K.matrix

-- b is a column for the rows of a
pub record IsSystem (a b : Given) : Type 0 where
  pub matrix : IsSoundInput a
  pub side : IsSoundInput b
  pub moduli : a.modulus ≡ b.modulus
  pub heights : a.height ≡ b.height
  pub column : b.width ≡ 1
  pub height : a.height < LARGEST_SIZE
  pub width : a.width < LARGEST_SIZE

-- what is answered of A x = b: for a prime modulus the reduced solution, or the row that refutes it
pub record IsSolvedBy (a b : Given) (found : Solution) : Type 0 where
  pub sound : IsSystem a b
  pub shape : HasSolutionShape a.modulus (given_matrix a) found
  pub solved : IsPrime a.modulus → IsSolved a.modulus (given_matrix a) (column (given_matrix b)) found

-- x is the solution that is answered, as a column
abbrev pub IsSolutionOf : Given → Given → ResidueMatrix → Type 0
IsSolutionOf a b x = IsSolvedBy a b (solution.Found x)

-- y is the row that refutes the system
abbrev pub IsRefutationOf : Given → Given → ResidueMatrix → Type 0
IsRefutationOf a b y = IsSolvedBy a b (solution.Refuted y)

-- the one or the other
abbrev pub IsSystemAnswerOf : Given → Given → ResidueMatrix → Type 0
IsSystemAnswerOf a b E = IsSolutionOf a b E ⊎ IsRefutationOf a b E

-- a is square and not too large
pub record IsSquare (a : Given) : Type 0 where
  pub matrix : IsSoundInput a
  pub square : a.height ≡ a.width
  pub small : 2 * a.width ≤ LARGEST_SIZE

-- what is answered of the inverse: for a prime modulus the inverse, or a null vector that isn't zero
pub record IsInvertedBy (a : Given) (found : Inverse) : Type 0 where
  pub sound : IsSquare a
  pub shape : HasInversionShape a.modulus a.width found
  pub inversion : IsPrime a.modulus → IsInversion a.modulus (given_matrix a) found

-- B is the inverse that is answered
abbrev pub IsInverseOf : Given → ResidueMatrix → Type 0
IsInverseOf a B = IsInvertedBy a (inverse.Found B)

-- v is the null vector, as a row
abbrev pub IsNullVectorOf : Given → ResidueMatrix → Type 0
IsNullVectorOf a v = IsInvertedBy a (inverse.Singular v)

-- the one or the other
abbrev pub IsInversionAnswerOf : Given → ResidueMatrix → Type 0
IsInversionAnswerOf a E = IsInverseOf a E ⊎ IsNullVectorOf a E

-- the pairs are what one worker selects as structural pivots
pub record ArePivotsOf (a : Given) (pairs : List Pair) : Type 0 where
  pub sound : IsSoundInput a
  pub selected : Selected (given_matrix a) 1 pairs
