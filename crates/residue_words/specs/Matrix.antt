-- Matrices of residues modulo p, as lists of rows (textbook). Rows and columns count from 0.
use Rattle.std.specs.Prelude.{◌≡◌, ◌<◌, ◌*◌, ◌%◌, ℕ, List, [], length, map, slice_index, slice_index_or}
use Rattle.std.specs.List.{range_with_len}
use Rattle.residue_words.specs.Residues.{sum_below}

pub record Matrix : Type 0 where
  pub height : ℕ
  pub width : ℕ
  pub rows : List (List ℕ)

-- the row at i, and the entry at row i and column j: 0 outside the sizes
abbrev pub row : Matrix → ℕ → List ℕ
row A i = slice_index_or A.rows i []

abbrev pub entry : Matrix → ℕ → ℕ → ℕ
entry A i j = slice_index (row A i) j

-- v is a list of n residues
pub record IsVector (p : ℕ) (n : ℕ) (v : List ℕ) : Type 0 where
  pub len : length v ≡ n
  pub residues : (j : ℕ) → j < n → slice_index v j < p

-- the rows of A are as many as its height, each a list of as many residues as its width
pub record IsMatrix (p : ℕ) (A : Matrix) : Type 0 where
  pub len : length A.rows ≡ A.height
  pub each : (i : ℕ) → i < A.height → IsVector p A.width (row A i)

-- the list f 0, f 1, .., f (n - 1)
abbrev pub list_of : ℕ → (ℕ → ℕ) → List ℕ
list_of n f = map f (range_with_len 0 n)

-- u . v, the sum of products of n places
abbrev pub dot : ℕ → ℕ → List ℕ → List ℕ → ℕ
dot p n u v = sum_below n (λ k. slice_index u k * slice_index v k) % p

-- y A, the combination of the rows of A with the coefficients y
abbrev pub combine : ℕ → List ℕ → Matrix → List ℕ
combine p y A = list_of A.width (λ j. sum_below A.height (λ i. slice_index y i * entry A i j) % p)

-- A x
abbrev pub apply : ℕ → Matrix → List ℕ → List ℕ
apply p A x = list_of A.height (λ i. sum_below A.width (λ j. entry A i j * slice_index x j) % p)

-- n zeros
abbrev pub zeros : ℕ → List ℕ
zeros n = list_of n (λ j. 0)

-- v is in the row space of A
abbrev pub IsCombination : ℕ → Matrix → List ℕ → Type 0
IsCombination p A v = (y : List ℕ) × IsVector p A.height y × (v ≡ combine p y A)
