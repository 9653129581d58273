use Rattle.run_trace.proofs.Example.{worked}
use Rattle.run_trace.proofs.laws.traces_are_worked.Goals as goal

pub returns : goal.returns
returns c = worked
