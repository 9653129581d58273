use Rattle.row_space.proofs.FactorLaws.{rref_of_factors}
use Rattle.row_space.proofs.factors_give_rref.Goals as goal

pub returns : goal.returns
returns c = rref_of_factors
