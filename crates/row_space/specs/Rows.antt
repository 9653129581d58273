-- Matrices as lists of rows, and rows that an elimination keeps.
use Rattle.std.specs.Prelude.{◌≡◌, ◌<◌, ◌+◌, ◌%◌, ℕ, List, length, slice_index}
use Rattle.residue_words.specs.Matrix.{Matrix, IsCombination}

-- the matrix with these rows of this width
abbrev pub of_rows : ℕ → List (List ℕ) → Matrix
of_rows width rows = record { height = length rows; width = width; rows = rows }

-- v is w and a combination of the rows of A
pub record DiffersBy (p : ℕ) (A : Matrix) (v w : List ℕ) : Type 0 where
  pub part : List ℕ
  pub combination : IsCombination p A part
  pub sum : (j : ℕ) → j < A.width → slice_index v j ≡ (slice_index w j + slice_index part j) % p

-- each of r rows has its own place: row k is 1 at place k, where the later rows are 0
pub record HasSteps (r n : ℕ) (e : ℕ → ℕ → ℕ) (place : ℕ → ℕ) : Type 0 where
  pub inside : (k : ℕ) → k < r → place k < n
  pub one : (k : ℕ) → k < r → e k (place k) ≡ 1
  pub later : (k t : ℕ) → k < t → t < r → e t (place k) ≡ 0
