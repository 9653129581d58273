use Rattle.cert_checker.proofs.Outer.{AreOuterOnesSoFar}
use Rattle.cert_checker.proofs.outer_ones.outer_ones.Given as goal

abbrev pub invariant-loop-k : goal.invariant-loop-k
invariant-loop-k l = AreOuterOnesSoFar l.fn.side l.fn.rows.matrix l.k l.least l.ones.items
