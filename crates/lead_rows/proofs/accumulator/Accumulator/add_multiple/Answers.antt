use Rattle.lead_rows.proofs.Scattered.{sparse_scattered}
use Rattle.lead_rows.proofs.accumulator.Accumulator.add_multiple.Goals as goal

pub add_scattered-requires-clause-row : goal.add_scattered-requires-clause-row
add_scattered-requires-clause-row c = sparse_scattered c.requires.sparse
