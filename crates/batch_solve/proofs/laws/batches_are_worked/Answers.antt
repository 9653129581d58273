use Rattle.batch_solve.proofs.Example.{worked}
use Rattle.batch_solve.proofs.laws.batches_are_worked.Goals as goal

pub returns : goal.returns
returns c = worked
