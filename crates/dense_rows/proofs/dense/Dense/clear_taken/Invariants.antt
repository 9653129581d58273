use Rattle.dense_rows.proofs.Dividing.{IsClearingTaken}
use Rattle.dense_rows.proofs.dense.Dense.clear_taken.Given as goal

abbrev pub invariant-loop-j : goal.invariant-loop-j
invariant-loop-j g l = IsClearingTaken l.p l.from l.taken l.fn.self l.j l.self
