use Rattle.row_space.proofs.Example.{worked}
use Rattle.row_space.proofs.example_is_worked.Goals as goal

pub returns : goal.returns
returns c = worked
