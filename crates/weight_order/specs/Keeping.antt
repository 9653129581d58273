-- Matrices of the same rank, and rows in other orders.
use Rattle.std.specs.Prelude.{◌≡◌, ◌≤◌, ℕ, List, min, IsPermutation}
use Rattle.residue_words.specs.Matrix.{Matrix, IsMatrix}
use Rattle.residue_words.specs.Residues.{IsPrime}
use Rattle.row_space.specs.Echelon.{HasRank}
use Rattle.sparse_rows.specs.Rows.{AreFilled, ResidueMatrix}

-- S has the modulus of R, for a prime one its rank, and a lesser size that is at most that of R
pub record KeepsRank (R S : ResidueMatrix) : Type 0 where
  pub modulus : S.modulus ≡ R.modulus
  pub sound : IsMatrix S.modulus S.matrix
  pub rank : IsPrime R.modulus → (r : ℕ) → HasRank R.modulus S.matrix r → HasRank R.modulus R.matrix r
  pub least : min S.matrix.height S.matrix.width ≤ min R.matrix.height R.matrix.width

-- the filled rows of A, each once, in some order
abbrev pub AreFilledInSomeOrder : Matrix → List ℕ → Type 0
AreFilledInSomeOrder A rows = (filled : List ℕ) × AreFilled A filled × IsPermutation filled rows
