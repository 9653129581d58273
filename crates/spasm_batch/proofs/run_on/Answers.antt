-- What the code tells of the words.
use Rattle.spasm_batch.proofs.Ending.{ends_refused, refused_ends}
use Rattle.spasm_batch.proofs.run_on.Goals as goal

pub returns-in-Ok-clause-refused : goal.returns-in-Ok-clause-refused
returns-in-Ok-clause-refused g c = rw c.in-Ok.is (rw (← c.deref.ensures.value) (refused_ends _ _ _ _ c.run_words.ensures))

pub returns-in-Ok-clause-usage : goal.returns-in-Ok-clause-usage
returns-in-Ok-clause-usage g c = rw c.in-Ok.is (rw (← c.deref.ensures.value) (ends_refused _ _ _ _ c.run_words.ensures))
