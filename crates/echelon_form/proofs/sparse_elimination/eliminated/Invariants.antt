use Rattle.std.proofs.Common.{◌-◌}
use Rattle.echelon_form.proofs.Keeping.{IsKeeping}
use Rattle.echelon_form.proofs.sparse_elimination.eliminated.Given as goal

abbrev pub invariant-loop-i : goal.invariant-loop-i
invariant-loop-i l = IsKeeping l.fn.rows.modulus l.fn.rows.matrix l.from l.kept

abbrev pub decreases-loop-i : goal.decreases-loop-i
decreases-loop-i l = l.fn.rows.matrix.height - l.from
