use Rattle.kernel_solve.proofs.Example.{worked}
use Rattle.kernel_solve.proofs.replies_are_worked.Goals as goal

pub returns : goal.returns
returns c = worked
