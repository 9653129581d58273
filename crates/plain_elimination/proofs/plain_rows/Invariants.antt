-- The rows before i were spread.
use Rattle.std.proofs.Common.{◌≡◌, take}
use Rattle.plain_elimination.specs.Plain.{lists}
use Rattle.plain_elimination.proofs.plain_rows.Given as goal

abbrev pub invariant-loop-i : goal.invariant-loop-i
invariant-loop-i l = lists l.plain.items ≡ take l.i l.rows.matrix.rows
