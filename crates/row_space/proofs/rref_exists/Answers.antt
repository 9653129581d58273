use Rattle.row_space.proofs.Exists.{rref_of_each}
use Rattle.row_space.proofs.rref_exists.Goals as goal

pub returns : goal.returns
returns c = rref_of_each
