-- Refuting combinations by the kernel basis of the transposed matrix: y A = 0 exactly where y is in that kernel.
use Rattle.std.specs.Prelude.{◌≡◌, ◌≢◌, ◌<◌, ◌≤◌, ◌*◌, ◌%◌, ℕ, List, length, slice_index}
use Rattle.residue_words.specs.Residues.{IsPrime, inverse}
use Rattle.residue_words.specs.Matrix.{Matrix, IsMatrix, IsVector, dot, list_of, row}
use Rattle.sparse_rows.specs.Rows.{transposed}
use Rattle.row_space.specs.Kernel.{IsKernel}
use Rattle.row_space.specs.Solution.{IsRefutingCombination, IsSolution}

-- c v
abbrev pub multiple : ℕ → ℕ → List ℕ → List ℕ
multiple p c v = list_of (length v) (λ j. c * slice_index v j % p)

-- all numbers of the list from `from` on are 0
abbrev pub AreZeroBehind : List ℕ → ℕ → Type 0
AreZeroBehind xs from = (t : ℕ) → from ≤ t → t < length xs → slice_index xs t ≡ 0

-- the first number of the list that isn't 0 stands at k
pub record IsFirstNonzero (xs : List ℕ) (k : ℕ) : Type 0 where
  pub inside : k < length xs
  pub nonzero : slice_index xs k ≢ 0
  pub before : (t : ℕ) → t < k → slice_index xs t ≡ 0

-- row k of K is the first whose product with b isn't 0
pub record IsFirstHit (p : ℕ) (K : Matrix) (b : List ℕ) (k : ℕ) : Type 0 where
  pub below : k < K.height
  pub hit : dot p K.width (row K k) b ≢ 0
  pub before : (t : ℕ) → t < k → dot p K.width (row K t) b ≡ 0

-- this row, divided by that product
abbrev pub divided : ℕ → Matrix → List ℕ → ℕ → List ℕ
divided p K b k = multiple p (inverse p (dot p K.width (row K k) b)) (row K k)

-- it is the refuting combination
abbrev pub FirstHitRefutes : Type 0
FirstHitRefutes = (p : ℕ) (A : Matrix) (b : List ℕ) (K : Matrix) (k : ℕ) → IsPrime p → IsMatrix p A →
    IsVector p A.height b →
    IsKernel p (transposed A) K → IsFirstHit p K b k → IsRefutingCombination p A b (divided p K b k)

-- and there is one where A x = b has no solution
abbrev pub UnsolvableIsHit : Type 0
UnsolvableIsHit = (p : ℕ) (A : Matrix) (b : List ℕ) (K : Matrix) → IsPrime p → IsMatrix p A →
    IsVector p A.height b →
    IsKernel p (transposed A) K → ((x : List ℕ) → ¬ IsSolution p A b x) → (k : ℕ) × IsFirstHit p K b k
