use Rattle.row_space.proofs.Unique.{rref_unique}
use Rattle.row_space.proofs.rref_is_unique.Goals as goal

pub returns : goal.returns
returns c = rref_unique
