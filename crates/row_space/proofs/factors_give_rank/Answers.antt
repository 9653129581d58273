use Rattle.row_space.proofs.FactorLaws.{rank_of_factors}
use Rattle.row_space.proofs.factors_give_rank.Goals as goal

pub returns : goal.returns
returns c = rank_of_factors
