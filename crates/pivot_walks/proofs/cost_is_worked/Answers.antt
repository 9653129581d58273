use Rattle.pivot_walks.proofs.Example.{worked}
use Rattle.pivot_walks.proofs.cost_is_worked.Goals as goal

pub returns : goal.returns
returns c = worked
