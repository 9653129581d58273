use Rattle.spasm_run.proofs.Whole.{ran_of}
use Rattle.spasm_run.proofs.running.run_within.Goals as goal

pub returns-clause-ran : goal.returns-clause-ran
returns-clause-ran g c = ran_of _ _ _ _ _ _ _ _ c.find-found.ensures.found c.write_found-status.ensures.written
