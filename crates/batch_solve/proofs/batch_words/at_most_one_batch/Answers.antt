use Rattle.batch_solve.proofs.BatchOptions.{one_batch}
use Rattle.batch_solve.proofs.batch_words.at_most_one_batch.Goals as goal

pub returns : goal.returns
returns c = one_batch
