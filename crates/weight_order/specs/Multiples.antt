-- Rows that are multiples of others, and matrices without them.
use Rattle.std.specs.Prelude.{◌≡◌, ◌≢◌, ◌<◌, ◌*◌, ◌%◌, ◌⊎◌, ℕ, List, [], ◌∷◌, ◌++◌, length, slice_index}
use Rattle.residue_words.specs.Matrix.{IsMatrix, row}
use Rattle.residue_words.specs.Residues.{IsPrime}
use Rattle.row_space.specs.Echelon.{SameSpan}
use Rattle.sparse_rows.specs.Rows.{AreRising, ResidueMatrix, selected}

-- v is a multiple of u, of n residues modulo p
abbrev pub IsMultiple : ℕ → ℕ → List ℕ → List ℕ → Type 0
IsMultiple p n v u = (c : ℕ) × ((j : ℕ) → j < n → slice_index v j ≡ (c * slice_index u j) % p)

-- for a prime modulus row i of R is a multiple of one of these rows
abbrev pub IsRepeated : ResidueMatrix → List ℕ → ℕ → Type 0
IsRepeated R rows i = IsPrime R.modulus → (k : ℕ) × (k < length rows)
    × IsMultiple R.modulus R.matrix.width (row R.matrix i) (row R.matrix (slice_index rows k))

-- b times the one's values are a times the other's, where b is no multiple of p
abbrev pub AreProportional : ℕ → List ℕ → List ℕ → Type 0
AreProportional p us vs = (a : ℕ) × (b : ℕ) × (b % p ≢ 0)
    × ((t : ℕ) → t < length us → (slice_index us t * b) % p ≡ (slice_index vs t * a) % p)

-- row i came to the rows of R that are kept, or is a multiple of one of them
abbrev pub AddsUnlessRepeated : ResidueMatrix → ℕ → List ℕ → List ℕ → Type 0
AddsUnlessRepeated R i old new = (new ≡ old ++ i ∷ []) ⊎ ((new ≡ old) × IsRepeated R old i)

-- of these rows of R, which ascend, some are kept, in order, and each is a multiple of one that is kept
pub record AreRepresentatives (R : ResidueMatrix) (rows kept : List ℕ) : Type 0 where
  pub rising : AreRising kept
  pub among : (k : ℕ) → k < length kept → (t : ℕ) × (t < length rows) × (slice_index kept k ≡ slice_index rows t)
  pub each : (t : ℕ) → t < length rows → IsRepeated R kept (slice_index rows t)

-- T has rows of R, in order, and for a prime modulus its row space
pub record HasSpanningRows (R T : ResidueMatrix) : Type 0 where
  pub sound : IsMatrix R.modulus R.matrix
  pub modulus : T.modulus ≡ R.modulus
  pub numbers : List ℕ
  pub rising : AreRising numbers
  pub below : (k : ℕ) → k < length numbers → slice_index numbers k < R.matrix.height
  pub matrix : T.matrix ≡ selected R.matrix numbers
  pub span : IsPrime R.modulus → SameSpan R.modulus R.matrix T.matrix
