-- Triangular systems by factors with pivots, solved by substitution.
use Rattle.std.specs.Prelude.{◌≡◌, ◌≢◌, ◌<◌, ◌+◌, ◌*◌, ◌%◌, ℕ, List, length, slice_index}
use Rattle.residue_words.specs.declared.plain.Pair.{Pair}
use Rattle.residue_words.specs.Residues.{IsPrime}
use Rattle.residue_words.specs.Matrix.{Matrix, IsVector, entry}
use Rattle.row_space.specs.Factors.{col_at, row_at}

-- the entries of L and of U at the k-th pivot
abbrev pub left_pivot : Matrix → List Pair → ℕ → ℕ
left_pivot L pivots k = entry L (row_at pivots k) k

abbrev pub right_pivot : Matrix → List Pair → ℕ → ℕ
right_pivot U pivots k = entry U k (col_at pivots k)

-- residues for n numbers d, their inverses where d isn't 0 and the modulus is prime
pub record InvertEach (p n : ℕ) (d : ℕ → ℕ) (inverses : List ℕ) : Type 0 where
  pub vector : IsVector p n inverses
  pub inverse : IsPrime p → (k : ℕ) → k < n → d k ≢ 0 → (d k * slice_index inverses k) % p ≡ 1

-- the rows of L at the pivots are lower triangular, and these are the inverses of the diagonal
pub record IsLower (p : ℕ) (L : Matrix) (pivots : List Pair) (inverses : List ℕ) : Type 0 where
  pub diagonal : (k : ℕ) → k < length pivots → (left_pivot L pivots k * slice_index inverses k) % p ≡ 1
  pub after : (k t : ℕ) → k < t → t < length pivots → entry L (row_at pivots k) t ≡ 0

-- the columns of U at the pivots are upper triangular, and these are the inverses of the diagonal
pub record IsUpper (p : ℕ) (U : Matrix) (pivots : List Pair) (inverses : List ℕ) : Type 0 where
  pub diagonal : (k : ℕ) → k < length pivots → (right_pivot U pivots k * slice_index inverses k) % p ≡ 1
  pub before : (k t : ℕ) → k < t → t < length pivots → entry U t (col_at pivots k) ≡ 0

-- the multiple of v by a factor was added
abbrev pub AddsTimes : ℕ → ℕ → List ℕ → List ℕ → List ℕ → Type 0
AddsTimes p by v old new = (j : ℕ) → j < length old →
    slice_index new j ≡ (slice_index old j + by * slice_index v j) % p
