-- Factors worked on the 3 x 3 example modulo 7.
use Rattle.std.specs.Prelude.{[], ◌∷◌}
use Rattle.row_space.specs.Echelon.{SameSpan}
use Rattle.row_space.specs.Example.{example, example_left, example_pivots, example_rref}
use Rattle.dense_finish.specs.declared.factors.Factors.{Factors}
use Rattle.pluq_factor.specs.Rounds.{AreFactorsOf, AreWithoutPivots}

-- its factors, with the pivots of row 1 and of row 0
abbrev pub example_factors : Factors
example_factors = record {
  pivots = example_pivots;
  l = record { modulus = 7; matrix = example_left };
  u = record { modulus = 7; matrix = example_rref };
}

-- what a matrix of zeros, of 2 rows and 3 columns, is factored to
abbrev pub zero_factors : Factors
zero_factors = record {
  pivots = [];
  l = record { modulus = 7; matrix = record { height = 2; width = 0; rows = [] ∷ [] ∷ [] } };
  u = record { modulus = 7; matrix = record { height = 0; width = 3; rows = [] } };
}

pub record AreWorkedFactors : Type 0 where
  pub factors : AreFactorsOf 7 example example_factors
  pub one_space : SameSpan 7 example example_rref
  pub none : AreWithoutPivots 7 2 3 zero_factors
