use Rattle.cert_checker.proofs.Outer.{ones_more}
use Rattle.cert_checker.proofs.outer_ones.outer_ones.Goals as goal

pub loop-k-preserved : goal.loop-k-preserved
loop-k-preserved c = rw c.in_ok-push.ensures.items (ones_more c.loop-k.invariant c.in-Some.c c.in-Some.ensures.some c.if-c-least.false)
