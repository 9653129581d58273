use Rattle.std.proofs.Common.{◌≡◌}
use Rattle.lead_rows.proofs.Behind.{IsMoving}
use Rattle.lead_rows.proofs.led.Led.behind_zeros.Given as goal

abbrev pub invariant-loop-k : goal.invariant-loop-k
invariant-loop-k l = (l.tail.modulus ≡ l.self.tail.modulus) × IsMoving l.self.tail.modulus l.count l.self.tail.row l.k l.tail.row
