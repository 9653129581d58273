-- The input is a text of one matrix, or not.
use Rattle.spasm_run.proofs.Input.{one_read, read_nothing}
use Rattle.spasm_run.proofs.read_matrices.read_one.Goals as goal

pub returns-in_default-clause-did : goal.returns-in_default-clause-did
returns-in_default-clause-did g c = read_nothing _ _

pub returns-clause-did : goal.returns-clause-did
returns-clause-did g c = one_read _ _ c.in-Ok.reader _ _ _ c.in-Ok.ensures c.read_rows.ensures.did
