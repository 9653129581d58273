-- The inverse of a matrix, which is square where it has one (textbook).
use Rattle.std.specs.Prelude.{◌≡◌, ◌<◌, ◌==◌, if◌then◌else◌, ℕ, List}
use Rattle.residue_words.specs.Matrix.{Matrix, IsMatrix, combine, list_of, row}

-- the row of n entries with a 1 at i and 0 elsewhere
abbrev pub unit : ℕ → ℕ → List ℕ
unit n i = list_of n (λ j. if j == i then 1 else 0)

-- A and B are square and of one size, and A B and B A are the identity: each row of one is the coefficients that combine the other's
-- rows to a row of the identity
pub record IsInverse (p : ℕ) (A B : Matrix) : Type 0 where
  pub matrix : IsMatrix p B
  pub square : A.height ≡ A.width
  pub height : B.height ≡ A.height
  pub width : B.width ≡ A.width
  pub right : (i : ℕ) → i < A.height → combine p (row A i) B ≡ unit A.width i
  pub left : (i : ℕ) → i < A.height → combine p (row B i) A ≡ unit A.width i

-- A has an inverse
abbrev pub HasInverse : ℕ → Matrix → Type 0
HasInverse p A = (B : Matrix) × IsInverse p A B
