-- The examples of 3 x 3 modulo 7 on which the definitions are worked: one whose third row is the sum of the first two, and one with an inverse.
use Rattle.std.specs.Prelude.{List, [], ◌∷◌}
use Rattle.residue_words.specs.declared.plain.Pair.{Pair}
use Rattle.residue_words.specs.Matrix.{Matrix}
use Rattle.residue_words.specs.Residues.{IsPrime}
use Rattle.row_space.specs.Echelon.{HasRank, IsRref}
use Rattle.row_space.specs.Factors.{Certificate, Claim, IsValid}
use Rattle.row_space.specs.Factors.Claim.{Kernel, Rank, Rref}
use Rattle.row_space.specs.Inverse.{IsInverse}
use Rattle.row_space.specs.Kernel.{IsKernel}
use Rattle.row_space.specs.Solution.{IsReducedSolution, IsRefutingCombination}

abbrev pub example : Matrix
example = record { height = 3; width = 3; rows = (2 ∷ 4 ∷ 1 ∷ []) ∷ (1 ∷ 2 ∷ 0 ∷ []) ∷ (3 ∷ 6 ∷ 1 ∷ []) ∷ [] }

abbrev pub example_rref : Matrix
example_rref = record { height = 2; width = 3; rows = (1 ∷ 2 ∷ 0 ∷ []) ∷ (0 ∷ 0 ∷ 1 ∷ []) ∷ [] }

abbrev pub example_kernel : Matrix
example_kernel = record { height = 1; width = 3; rows = (5 ∷ 1 ∷ 0 ∷ []) ∷ [] }

-- factors of it: the pivots are at row 1, column 0, and at row 0, column 2, and the right factor is the form
abbrev pub example_pivots : List Pair
example_pivots = record { row = 1; col = 0 } ∷ record { row = 0; col = 2 } ∷ []

abbrev pub example_left : Matrix
example_left = record { height = 3; width = 2; rows = (2 ∷ 1 ∷ []) ∷ (1 ∷ 0 ∷ []) ∷ (3 ∷ 1 ∷ []) ∷ [] }

abbrev pub example_certificate : Claim → Certificate
example_certificate claim = record {
  modulus = 7;
  pivots = example_pivots;
  left = example_left;
  right = example_rref;
  claim = claim;
}

abbrev pub example_square : Matrix
example_square = record {
  height = 3;
  width = 3;
  rows = (1 ∷ 0 ∷ 0 ∷ []) ∷ (1 ∷ 1 ∷ 1 ∷ []) ∷ (1 ∷ 1 ∷ 2 ∷ []) ∷ [];
}

abbrev pub example_inverse : Matrix
example_inverse = record {
  height = 3;
  width = 3;
  rows = (1 ∷ 0 ∷ 0 ∷ []) ∷ (6 ∷ 2 ∷ 6 ∷ []) ∷ (0 ∷ 6 ∷ 1 ∷ []) ∷ [];
}

-- what holds of them
pub record IsWorked : Type 0 where
  pub prime : IsPrime 7
  pub rref : IsRref 7 example example_rref
  pub rank : HasRank 7 example 2
  pub kernel : IsKernel 7 example example_kernel
  pub solution : IsReducedSolution 7 example (1 ∷ 0 ∷ 1 ∷ []) (0 ∷ 0 ∷ 1 ∷ [])
  pub rank_certificate : IsValid 7 example (example_certificate Rank)
  pub rref_certificate : IsValid 7 example (example_certificate (Rref example_rref))
  pub kernel_certificate : IsValid 7 example (example_certificate (Kernel example_kernel))
  pub refutation : IsRefutingCombination 7 example (0 ∷ 0 ∷ 1 ∷ []) (6 ∷ 6 ∷ 1 ∷ [])
  pub inverse : IsInverse 7 example_square example_inverse
