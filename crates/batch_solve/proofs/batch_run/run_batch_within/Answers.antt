use Rattle.batch_solve.proofs.BatchWhole.{ran_of}
use Rattle.batch_solve.proofs.batch_run.run_batch_within.Goals as goal

pub returns-clause-ran : goal.returns-clause-ran
returns-clause-ran g c = ran_of _ _ _ _ _ _ _ _ c.find_replies-found.ensures.found c.write_found-status.ensures.written
