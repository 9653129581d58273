use Rattle.plain_elimination.proofs.first_nonzero.Goals as goal

pub returns-then-a-ne0 : goal.returns-then-a-ne0
returns-then-a-ne0 c = record { inside = c.loop-j-test.true; nonzero = c.if-a-ne0.true; first = c.loop-j.invariant }
