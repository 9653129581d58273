-- Rounds that are counted alone.
use Rattle.std.specs.Prelude.{◌≡◌, ◌≤◌, ℕ, List, length}
use Rattle.residue_words.specs.declared.plain.Pair.{Pair}
use Rattle.residue_words.specs.Residues.{IsPrime}
use Rattle.residue_words.specs.Matrix.{IsMatrix}
use Rattle.row_space.specs.Echelon.{HasRank}
use Rattle.sparse_rows.specs.Rows.{ResidueMatrix}
use Rattle.pivot_table.specs.Order.{Triangular}
use Rattle.pluq_factor.specs.RoundPivots.{IsRestOf, triangle_on}
use Rattle.pluq_factor.specs.declared.counted_round.CountedRound.{CountedRound}

-- the number of triangular pivots, and what these leave
pub record IsCountedRound (R : ResidueMatrix) (c : CountedRound) : Type 0 where
  pub sound : IsMatrix R.modulus R.matrix
  pub pairs : List Pair
  pub triangular : Triangular R.matrix pairs
  pub count : c.count ≡ length pairs
  pub rest : IsRestOf (triangle_on R pairs) c.rest

-- the rank for a prime modulus, and for any a number that is no more than height and width
pub record IsBoundedRank (R : ResidueMatrix) (r : ℕ) : Type 0 where
  pub rank : IsPrime R.modulus → HasRank R.modulus R.matrix r
  pub at_most_height : r ≤ R.matrix.height
  pub at_most_width : r ≤ R.matrix.width
