-- What is told of a system of equations A x = b.
use Rattle.std.specs.Prelude.{◌≡◌, ℕ, List}
use Rattle.residue_words.specs.Residues.{IsPrime}
use Rattle.residue_words.specs.Matrix.{Matrix, IsMatrix, row}
use Rattle.row_space.specs.Solution.{IsReducedSolution, IsRefutingCombination, IsSolution}
use Rattle.sparse_rows.specs.Rows.{ResidueMatrix, beside}
use Rattle.kernel_solve.specs.declared.systems.Found.{Found}
use Rattle.kernel_solve.specs.Column.{column}
use Rattle.kernel_solve.specs.Found.{Answers}
use Rattle.spasm_lib.specs.declared.outcome.Solution.{Solution}
use Rattle.spasm_lib.specs.declared.outcome.Solution.TheVariants as solution

-- the reduced solution as a column; or there is none, and the refuting combination as a row
abbrev pub IsSolved : ℕ → Matrix → List ℕ → Solution → Type 0
IsSolved p A b (solution.Found x) = IsReducedSolution p A b (column x.matrix)
IsSolved p A b (solution.Refuted y) =
    ((x : List ℕ) → ¬ IsSolution p A b x) × IsRefutingCombination p A b (row y.matrix 0)

-- one row of n residues
abbrev pub HasShapeOfRow : ℕ → ℕ → ResidueMatrix → Type 0
HasShapeOfRow p n y = (y.modulus ≡ p) × IsMatrix p y.matrix × (y.matrix.height ≡ 1) × (y.matrix.width ≡ n)

-- for each modulus: a column of residues as high as A is wide, or a row of residues as wide as A is high
abbrev pub HasSolutionShape : ℕ → Matrix → Solution → Type 0
HasSolutionShape p A (solution.Found x) =
    (x.modulus ≡ p) × IsMatrix p x.matrix × (x.matrix.height ≡ A.width) × (x.matrix.width ≡ 1)
HasSolutionShape p A (solution.Refuted y) = HasShapeOfRow p A.height y

-- what is found for the system S: for a prime modulus the solution of A x = b, or that there is none, where S is [A | B]
-- and b the one column of B
abbrev pub AnswersSystem : ℕ → Matrix → Found → Type 0
AnswersSystem p S found =
    IsPrime p → (A B : Matrix) → IsMatrix p A → IsMatrix p B → A.height ≡ B.height → B.width ≡ 1 →
    S ≡ beside A B → Answers p A (column B) found
