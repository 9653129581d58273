use Rattle.std.proofs.Common.{take}
use Rattle.sparse_rows.specs.Rows.{narrowed}
use Rattle.sparse_rows.proofs.Loops.{IsSelectionSoFar}
use Rattle.weight_order.proofs.in_order.rearranged.Given as goal

abbrev pub invariant-loop-i : goal.invariant-loop-i
invariant-loop-i l = IsSelectionSoFar (record { modulus = l.matrix.modulus; matrix = narrowed l.matrix.matrix l.columns }) (take l.i-index l.rows) l.made
