use Rattle.std.proofs.Common.{◌≡◌, length}
use Rattle.lead_rows.specs.Accumulator.{IsAccumulator}
use Rattle.lead_rows.proofs.Extent.{extent}
use Rattle.lead_rows.proofs.accumulator.Accumulator.clear.Given as goal

abbrev pub invariant-loop-column : goal.invariant-loop-column
invariant-loop-column l = record {
  modulus : l.self-inside.modulus ≡ l.fn.self.modulus;
  len : length l.self-inside.sums.items ≡ length l.fn.self.row;
  sound : IsAccumulator l.self-inside.modulus l.self-inside.limit l.self-inside.sums.items l.self-inside.touched;
}

abbrev pub decreases-loop-column : goal.decreases-loop-column
decreases-loop-column l = extent l.self-inside.touched
