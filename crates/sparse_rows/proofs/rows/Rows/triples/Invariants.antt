use Rattle.std.proofs.Common.{◌-◌}
use Rattle.sparse_rows.proofs.FilledRows.{AreTriplesSoFar}
use Rattle.sparse_rows.proofs.rows.Rows.triples.Given as goal

abbrev pub invariant-loop-i : goal.invariant-loop-i
invariant-loop-i l = AreTriplesSoFar l.self.matrix l.from l.triples.items

abbrev pub decreases-loop-i : goal.decreases-loop-i
decreases-loop-i l = l.self.matrix.height - l.from
