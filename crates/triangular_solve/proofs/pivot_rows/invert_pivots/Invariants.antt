use Rattle.triangular_solve.proofs.Eliminating.{AreInversesBelow}
use Rattle.triangular_solve.proofs.pivot_rows.invert_pivots.Given as goal

abbrev pub invariant-loop-k : goal.invariant-loop-k
invariant-loop-k l = AreInversesBelow l.placed l.k l.inverses.items
