-- Words that aren't accepted are refused; others are a command, whose numbers lie in their ranges.
use Rattle.spasm_run.proofs.Whole.{found_memory, found_refused}
use Rattle.spasm_words.specs.Options.{bytes_of}
use Rattle.spasm_words.proofs.InRange.{modulus_in_range, sizes_in_range, workers_in_range}
use Rattle.spasm_run.proofs.running.find.Goals as goal

pub returns-in-Ok-None-clause-found : goal.returns-in-Ok-None-clause-found
returns-in-Ok-None-clause-found g c = found_refused (bytes_of c.args.words.now) c.args.limit (g.S.Source.state c.args.source.now) (rw c.in-Ok-None.field-0-is at c.in-Ok-None.ensures)

pub returns-in-Err-clause-found : goal.returns-in-Err-clause-found
returns-in-Err-clause-found g c = found_memory (bytes_of c.args.words.now) c.args.limit (g.S.Source.state c.args.source.now)

pub find_for-requires-clause-two_or_more : goal.find_for-requires-clause-two_or_more
find_for-requires-clause-two_or_more g c κs within = (modulus_in_range (bytes_of c.args.words.now) c.in-Ok-Some.command (rw c.in-Ok-Some.field-0-is at c.in-Ok-Some.ensures)).0

pub find_for-requires-clause-in_range : goal.find_for-requires-clause-in_range
find_for-requires-clause-in_range g c κs within = (modulus_in_range (bytes_of c.args.words.now) c.in-Ok-Some.command (rw c.in-Ok-Some.field-0-is at c.in-Ok-Some.ensures)).1

pub find_for-requires-clause-some : goal.find_for-requires-clause-some
find_for-requires-clause-some g c κs within = (workers_in_range (bytes_of c.args.words.now) c.in-Ok-Some.command (rw c.in-Ok-Some.field-0-is at c.in-Ok-Some.ensures)).0

pub find_for-requires-clause-generator : goal.find_for-requires-clause-generator
find_for-requires-clause-generator g c κs within = sizes_in_range (bytes_of c.args.words.now) c.in-Ok-Some.command (rw c.in-Ok-Some.field-0-is at c.in-Ok-Some.ensures)
