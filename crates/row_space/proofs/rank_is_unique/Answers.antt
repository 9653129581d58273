use Rattle.row_space.proofs.Unique.{rank_unique}
use Rattle.row_space.proofs.rank_is_unique.Goals as goal

pub returns : goal.returns
returns c = rank_unique
