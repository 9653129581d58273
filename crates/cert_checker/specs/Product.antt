-- Products of matrices, row by row.
use Rattle.std.specs.Prelude.{◌≡◌, ◌≢◌, ◌<◌, ◌*◌, ◌%◌, ℕ, List, length, slice_index, Contains}
use Rattle.residue_words.specs.Matrix.{Matrix, entry}
use Rattle.residue_words.specs.Residues.{sum_below}
use Rattle.sparse_rows.specs.Rows.{ResidueMatrix}

-- the combination of the rows of B with the coefficients y at column j, as a whole number
abbrev pub combined_at : (ℕ → ℕ) → Matrix → ℕ → ℕ
combined_at y B j = sum_below B.height (λ t. y t * entry B t j)

-- v is that combination
abbrev pub IsCombined : ℕ → (ℕ → ℕ) → (ℕ → ℕ) → Matrix → Type 0
IsCombined p v y B = (j : ℕ) → j < B.width → v j ≡ combined_at y B j % p

-- V = Y B
abbrev pub IsProduct : ℕ → Matrix → Matrix → Matrix → Type 0
IsProduct p V Y B = (i : ℕ) → i < V.height → IsCombined p (entry V i) (entry Y i) B

-- V is of the sizes and of the modulus of Y B
pub record FitAsProduct (V Y B : ResidueMatrix) : Type 0 where
  pub height : Y.matrix.height ≡ V.matrix.height
  pub width : V.matrix.width ≡ B.matrix.width
  pub inner : Y.matrix.width ≡ B.matrix.height
  pub modulus : V.modulus ≡ B.modulus
  pub left_modulus : Y.modulus ≡ B.modulus

-- the sums are 0 at these columns
abbrev pub IsZeroAt : List ℕ → List ℕ → Type 0
IsZeroAt sums cols = (q : ℕ) → q < length cols → slice_index sums (slice_index cols q) ≡ 0

-- the sums are 0 wherever one of these rows of B isn't
abbrev pub IsZeroAlong : List ℕ → List ℕ → Matrix → Type 0
IsZeroAlong sums rows B = (k : ℕ) → k < length rows → (j : ℕ) → entry B (slice_index rows k) j ≢ 0 →
    slice_index sums j ≡ 0

-- each of the numbers is in the list
abbrev pub AreAllIn : List ℕ → List ℕ → Type 0
AreAllIn xs numbers = (k : ℕ) → k < length numbers → Contains xs (slice_index numbers k)
