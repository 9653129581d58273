use Rattle.batch_solve.proofs.OneBatchAnswer.{one_batch_answer}
use Rattle.batch_solve.proofs.batch_run.at_most_one_batch_answer.Goals as goal

pub returns : goal.returns
returns c = one_batch_answer
