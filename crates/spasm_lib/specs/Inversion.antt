-- What is told of the inverse of a square matrix A.
use Rattle.std.specs.Prelude.{◌≡◌, ◌≢◌, ◌<◌, ℕ}
use Rattle.residue_words.specs.Matrix.{Matrix, IsMatrix, row, zeros}
use Rattle.row_space.specs.Inverse.{IsInverse}
use Rattle.row_space.specs.Kernel.{IsKernel, IsNull}
use Rattle.kernel_solve.specs.Inverted.{IsSquareOf}
use Rattle.spasm_lib.specs.declared.outcome.Inverse.{Inverse}
use Rattle.spasm_lib.specs.declared.outcome.Inverse.TheVariants.{Found, Singular}

-- the inverse; or there is none, and, as a row, a null vector that isn't zero, the first row of the kernel basis
abbrev pub IsInversion : ℕ → Matrix → Inverse → Type 0
IsInversion p A (Found b) = IsInverse p A b.matrix
IsInversion p A (Singular v) = ((B : Matrix) → ¬ IsInverse p A B)
    × IsNull p A (row v.matrix 0) × (row v.matrix 0 ≢ zeros A.width)
    × ((K : Matrix) × IsKernel p A K × (0 < K.height) × (row v.matrix 0 ≡ row K 0))

-- for each modulus: residues, n rows and n columns, or one row of n
abbrev pub HasInversionShape : ℕ → ℕ → Inverse → Type 0
HasInversionShape p n (Found b) = IsSquareOf p n b
HasInversionShape p n (Singular v) =
    (v.modulus ≡ p) × IsMatrix p v.matrix × (v.matrix.height ≡ 1) × (v.matrix.width ≡ n)
