-- What is told of the inverse of a square matrix.
use Rattle.std.specs.Prelude.{◌≡◌, ◌≢◌, ◌<◌, ◌≤◌, ℕ, Option, Some, None}
use Rattle.residue_words.specs.Matrix.{Matrix, IsMatrix, row, zeros}
use Rattle.sparse_rows.specs.Rows.{ResidueMatrix, beside, entry_count, identity}
use Rattle.row_space.specs.Inverse.{IsInverse}
use Rattle.row_space.specs.Kernel.{IsKernel, IsNull}
use Rattle.kernel_solve.specs.declared.outcome.Inverse.{Inverse}
use Rattle.kernel_solve.specs.declared.outcome.Inverse.TheVariants.{Of, Singular}

-- the inverse of A, or, as a row, the first row of its kernel basis, a null vector that is not zero
abbrev pub Inverts : ℕ → Matrix → Inverse → Type 0
Inverts p A (Of b) = IsInverse p A b.matrix
Inverts p A (Singular v) =
    IsNull p A (row v.matrix 0) × (row v.matrix 0 ≢ zeros A.width)
    × ((K : Matrix) × IsKernel p A K × (0 < K.height) × (row v.matrix 0 ≡ row K 0))

-- residues modulo p, n rows and n columns
abbrev pub IsSquareOf : ℕ → ℕ → ResidueMatrix → Type 0
IsSquareOf p n b = (b.modulus ≡ p) × IsMatrix p b.matrix × (b.matrix.height ≡ n) × (b.matrix.width ≡ n)

-- the same, or one row of n
abbrev pub HasInverseShape : ℕ → ℕ → Inverse → Type 0
HasInverseShape p n (Of b) = IsSquareOf p n b
HasInverseShape p n (Singular v) =
    (v.modulus ≡ p) × IsMatrix p v.matrix × (v.matrix.height ≡ 1) × (v.matrix.width ≡ n)

-- each kernel basis of A has a row, so that for a prime modulus A has no inverse
abbrev pub IsSingular : ℕ → Matrix → Type 0
IsSingular p A = (K : Matrix) → IsKernel p A K → 0 < K.height

-- the inverse of A, or nothing where, for a prime modulus, there is none
abbrev pub TellsInverse : ℕ → Matrix → Option ResidueMatrix → Type 0
TellsInverse p A (Some b) = IsInverse p A b.matrix
TellsInverse p A None = IsSingular p A

-- [A | I], or nothing where A has fewer entries than rows: one of these is zero, so that for a prime modulus A has no inverse
abbrev pub IsDoubled : ResidueMatrix → Option ResidueMatrix → Type 0
IsDoubled A (Some S) = (S.modulus ≡ A.modulus) × (S.matrix ≡ beside A.matrix (identity A.matrix.width))
    × (A.matrix.height ≤ entry_count A.matrix)
IsDoubled A None = entry_count A.matrix < A.matrix.height
