-- A matrix of 3 x 3 modulo 7 whose third row is the sum of the first two, and its transpose, in which no row is.
use Rattle.std.specs.Prelude.{◌≡◌, [], ◌∷◌}
use Rattle.residue_words.specs.Matrix.{Matrix}
use Rattle.row_space.specs.Echelon.{HasRank}
use Rattle.row_space.specs.Example.{example}
use Rattle.sparse_rows.specs.Rows.{transposed}

abbrev pub example_turned : Matrix
example_turned = record { height = 3; width = 3; rows = (2 ∷ 1 ∷ 3 ∷ []) ∷ (4 ∷ 2 ∷ 6 ∷ []) ∷ (1 ∷ 0 ∷ 1 ∷ []) ∷ [] }

-- what holds of them
pub record IsTurnedExample : Type 0 where
  pub turned : transposed example ≡ example_turned
  pub rank : HasRank 7 example 2
  pub turned_rank : HasRank 7 example_turned 2
