use Rattle.row_space.proofs.Solvable.{alternative_holds}
use Rattle.row_space.proofs.alternative.Goals as goal

pub returns : goal.returns
returns c = alternative_holds
