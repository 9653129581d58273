use Rattle.spasm_laws.proofs.Examples.{worked_runs}
use Rattle.spasm_laws.proofs.runs_are_worked.Goals as goal

pub returns : goal.returns
returns c = worked_runs
