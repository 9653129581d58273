-- Rows from the last to the first.
use Rattle.std.specs.Prelude.{◌≡◌, ◌≤◌, ℕ, List, length}
use Rattle.residue_words.specs.Matrix.{IsMatrix}
use Rattle.sparse_rows.specs.Rows.{ResidueMatrix, selected}
use Rattle.weight_order.specs.Laws.{HasEachFilled}

-- T has rows of R, no more than R has, and each that has an entry is among them
pub record HasFilledRows (R T : ResidueMatrix) : Type 0 where
  pub sound : IsMatrix R.modulus R.matrix
  pub modulus : T.modulus ≡ R.modulus
  pub numbers : List ℕ
  pub filled : HasEachFilled R.matrix numbers
  pub few : length numbers ≤ R.matrix.height
  pub matrix : T.matrix ≡ selected R.matrix numbers
