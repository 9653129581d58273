use Rattle.row_space.proofs.FactorLaws.{rref_of_rank}
use Rattle.row_space.proofs.rank_gives_rref.Goals as goal

pub returns : goal.returns
returns c = rref_of_rank
