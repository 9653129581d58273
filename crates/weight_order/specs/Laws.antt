-- What keeps the rank of a matrix. Each law is the contract of a public function that does nothing.
use Rattle.std.specs.Prelude.{◌<◌, ◌≤◌, ◌↔◌, ℕ, List, All, Contains}
use Rattle.residue_words.specs.Matrix.{Matrix, IsMatrix}
use Rattle.residue_words.specs.Residues.{IsPrime}
use Rattle.row_space.specs.Echelon.{HasRank, SameSpan}
use Rattle.sparse_rows.specs.Rows.{IsFilled, selected, transposed}

-- A and its transpose have the same rank
abbrev pub TransposingKeepsRank : Type 0
TransposingKeepsRank = (p : ℕ) (A : Matrix) (r : ℕ) → IsPrime p → IsMatrix p A →
    (HasRank p A r ↔ HasRank p (transposed A) r)

-- these are rows of A, and each filled row is one of them
pub record HasEachFilled (A : Matrix) (rows : List ℕ) : Type 0 where
  pub inside : All (λ i. i < A.height) rows
  pub all : (i : ℕ) → i < A.height → IsFilled A i → Contains rows i

-- such rows have the row space of A, and its rank
abbrev pub SelectingKeepsSpan : Type 0
SelectingKeepsSpan = (p : ℕ) (A : Matrix) (rows : List ℕ) → 2 ≤ p → IsMatrix p A → HasEachFilled A rows →
    SameSpan p A (selected A rows)

abbrev pub SelectingKeepsRank : Type 0
SelectingKeepsRank = (p : ℕ) (A : Matrix) (rows : List ℕ) (r : ℕ) → 2 ≤ p → IsMatrix p A →
    HasEachFilled A rows → (HasRank p A r ↔ HasRank p (selected A rows) r)
