use Rattle.pivot_table.proofs.Example.{worked}
use Rattle.pivot_table.proofs.histories_are_worked.Goals as goal

pub returns : goal.returns
returns c = worked
