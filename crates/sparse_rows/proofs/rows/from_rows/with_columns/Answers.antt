use Rattle.sparse_rows.proofs.rows.from_rows.with_columns.Goals as goal

pub widened-requires-clause-width : goal.widened-requires-clause-width
widened-requires-clause-width c = c.requires.height

pub widened-requires-clause-many : goal.widened-requires-clause-many
widened-requires-clause-many c = (c.requires.rows c.if-every_row.false).many

pub widened-requires-clause-rising : goal.widened-requires-clause-rising
widened-requires-clause-rising c = (c.requires.rows c.if-every_row.false).rising

pub widened-requires-clause-below : goal.widened-requires-clause-below
widened-requires-clause-below c = (c.requires.rows c.if-every_row.false).below

pub returns-then-every_row-clause-matrix : goal.returns-then-every_row-clause-matrix
returns-then-every_row-clause-matrix c = rw c.if-every_row.true

pub returns-else-every_row-clause-modulus : goal.returns-else-every_row-clause-modulus
returns-else-every_row-clause-modulus c = c.widened.ensures.modulus

pub returns-else-every_row-clause-matrix : goal.returns-else-every_row-clause-matrix
returns-else-every_row-clause-matrix c = rw c.if-every_row.false c.widened.ensures.matrix
