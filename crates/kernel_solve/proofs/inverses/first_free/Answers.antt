use Rattle.kernel_solve.proofs.Free.{free_at}
use Rattle.kernel_solve.proofs.inverses.first_free.Goals as goal

pub returns-then-leads-k-clause-free : goal.returns-then-leads-k-clause-free
returns-then-leads-k-clause-free c = free_at c.args.leads.now c.loop-k.k c.requires.rising c.loop-k.invariant c.loop-k-test.true c.if-leads-k.true
