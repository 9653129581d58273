-- Words that aren't accepted are refused; others are a batch, whose numbers lie in their ranges.
use Rattle.spasm_words.specs.Options.{bytes_of}
use Rattle.batch_solve.proofs.BatchOptions.{count_in_range, modulus_in_range, workers_in_range}
use Rattle.batch_solve.proofs.BatchWhole.{found_memory, found_refused}
use Rattle.batch_solve.proofs.batch_run.find_replies.Goals as goal

pub returns-in-Ok-None-clause-found : goal.returns-in-Ok-None-clause-found
returns-in-Ok-None-clause-found g c = found_refused (bytes_of c.args.words.now) c.args.limit (g.S.Source.state c.args.source.now) (rw c.in-Ok-None.field-0-is at c.in-Ok-None.ensures)

pub returns-in-Err-clause-found : goal.returns-in-Err-clause-found
returns-in-Err-clause-found g c = found_memory (bytes_of c.args.words.now) c.args.limit (g.S.Source.state c.args.source.now)

pub answer_batch-requires-clause-count : goal.answer_batch-requires-clause-count
answer_batch-requires-clause-count g c κs within = (count_in_range (bytes_of c.args.words.now) c.in-Ok-Some.command (rw c.in-Ok-Some.field-0-is at c.in-Ok-Some.ensures)).1

pub answer_batch-requires-clause-two_or_more : goal.answer_batch-requires-clause-two_or_more
answer_batch-requires-clause-two_or_more g c κs within = (modulus_in_range (bytes_of c.args.words.now) c.in-Ok-Some.command (rw c.in-Ok-Some.field-0-is at c.in-Ok-Some.ensures)).0

pub answer_batch-requires-clause-in_range : goal.answer_batch-requires-clause-in_range
answer_batch-requires-clause-in_range g c κs within = (modulus_in_range (bytes_of c.args.words.now) c.in-Ok-Some.command (rw c.in-Ok-Some.field-0-is at c.in-Ok-Some.ensures)).1

pub answer_batch-requires-clause-some : goal.answer_batch-requires-clause-some
answer_batch-requires-clause-some g c κs within = (workers_in_range (bytes_of c.args.words.now) c.in-Ok-Some.command (rw c.in-Ok-Some.field-0-is at c.in-Ok-Some.ensures)).0
