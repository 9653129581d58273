-- Null vectors, and the kernel basis in its reduced form.
use Rattle.std.specs.Prelude.{◌≡◌, ◌≢◌, ◌<◌, ℕ, List, length, slice_index}
use Rattle.residue_words.specs.Matrix.{Matrix, IsMatrix, IsVector, IsCombination, apply, entry, row, zeros}
use Rattle.row_space.specs.Echelon.{HasPlaces}

-- A v = 0
abbrev pub IsNull : ℕ → Matrix → List ℕ → Type 0
IsNull p A v = IsVector p A.width v × (apply p A v ≡ zeros A.height)

-- A takes a vector other than zero to zero
abbrev pub HasNull : ℕ → Matrix → Type 0
HasNull p A = (v : List ℕ) × IsNull p A v × (v ≢ zeros A.width)

-- the last nonzero entries of the rows of K are ones and stand at these rising columns, where every other row is 0
abbrev pub HasEnds : Matrix → List ℕ → Type 0
HasEnds K ends = (length ends ≡ K.height) × HasPlaces (λ j end. end < j) K.height K.width (entry K)
    (slice_index ends)

-- K is the kernel basis of A: its rows are null vectors, each null vector is a combination of them, and they are reduced
pub record IsKernel (p : ℕ) (A K : Matrix) : Type 0 where
  pub matrix : IsMatrix p K
  pub width : K.width ≡ A.width
  pub null : (k : ℕ) → k < K.height → IsNull p A (row K k)
  pub every : (v : List ℕ) → IsNull p A v → IsCombination p K v
  pub form : (ends : List ℕ) × HasEnds K ends

-- the last nonzero entry of the list v of n residues stands at j
pub record EndsAt (n : ℕ) (v : List ℕ) (j : ℕ) : Type 0 where
  pub inside : j < n
  pub nonzero : slice_index v j ≢ 0
  pub last : (i : ℕ) → j < i → i < n → slice_index v i ≡ 0
