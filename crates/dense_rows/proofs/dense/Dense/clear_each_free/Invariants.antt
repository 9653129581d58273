use Rattle.std.proofs.Common.{length}
use Rattle.dense_rows.proofs.Dividing.{IsClearing}
use Rattle.dense_rows.proofs.dense.Dense.clear_each_free.Given as goal

abbrev pub invariant-loop-j : goal.invariant-loop-j
invariant-loop-j g l = IsClearing l.p (length l.fn.self) l.c l.taken l.fn.self l.j l.self
