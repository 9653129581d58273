use Rattle.std.proofs.Common.{◌≡◌}
use Rattle.lead_rows.proofs.Dividing.{IsDividing}
use Rattle.lead_rows.proofs.led.Led.divided.Given as goal

abbrev pub invariant-loop-k : goal.invariant-loop-k
invariant-loop-k l = (l.tail.modulus ≡ l.row.modulus) × IsDividing l.row.modulus l.row.row l.factor l.k l.tail.row
