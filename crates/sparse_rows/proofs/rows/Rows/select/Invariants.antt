use Rattle.std.proofs.Common.{take}
use Rattle.sparse_rows.proofs.Loops.{IsSelectionSoFar}
use Rattle.sparse_rows.proofs.rows.Rows.select.Given as goal

abbrev pub invariant-loop-i : goal.invariant-loop-i
invariant-loop-i l = IsSelectionSoFar l.self (take l.i-index l.rows) l.made
