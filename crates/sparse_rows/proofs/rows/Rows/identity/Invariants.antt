use Rattle.sparse_rows.proofs.Loops.{IsIdentitySoFar}
use Rattle.sparse_rows.proofs.rows.Rows.identity.Given as goal

abbrev pub invariant-loop-i : goal.invariant-loop-i
invariant-loop-i l = IsIdentitySoFar l.p l.n l.i l.rows l.row
