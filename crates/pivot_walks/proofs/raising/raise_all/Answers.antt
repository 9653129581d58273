use Rattle.pivot_walks.proofs.Leveling.{popped}
use Rattle.pivot_walks.proofs.raising.raise_all.Goals as goal

pub raise_steps-requires-clause-levels : goal.raise_steps-requires-clause-levels
raise_steps-requires-clause-levels c = popped c.in-Some.c c.loop-c.invariant.1 c.in-Some.ensures.last.0
