-- What is told of a system of equations.
use Rattle.std.specs.Prelude.{◌≡◌, ◌+◌, ℕ, List}
use Rattle.residue_words.specs.Matrix.{Matrix, IsMatrix}
use Rattle.row_space.specs.Solution.{IsReducedSolution, IsSolution}
use Rattle.kernel_solve.specs.declared.systems.Found.{Found}
use Rattle.kernel_solve.specs.declared.systems.Found.TheVariants.{Solution, Inconsistent}
use Rattle.kernel_solve.specs.Column.{column}

-- the reduced solution of A x = b as a column, or that there is no solution
abbrev pub Answers : ℕ → Matrix → List ℕ → Found → Type 0
Answers p A b (Solution x) = (x.matrix.height ≡ A.width) × IsReducedSolution p A b (column x.matrix)
Answers p A b Inconsistent = (x : List ℕ) → ¬ IsSolution p A b x

-- a column of residues modulo p, one row fewer than n, or nothing
abbrev pub HasShape : ℕ → ℕ → Found → Type 0
HasShape p n (Solution x) =
    (x.modulus ≡ p) × IsMatrix p x.matrix × (x.matrix.height + 1 ≡ n) × (x.matrix.width ≡ 1)
HasShape p n Inconsistent = Unit {0}
