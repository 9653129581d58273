use Rattle.std.proofs.Common.{◌≡◌}
use Rattle.lead_rows.specs.Accumulator.{IsAccumulator, residues_of}
use Rattle.lead_rows.proofs.Extent.{extent}
use Rattle.lead_rows.proofs.accumulator.Accumulator.pop.Given as goal

abbrev pub invariant-loop-column : goal.invariant-loop-column
invariant-loop-column l = record {
  same : record { modulus = l.self-inside.modulus; row = residues_of l.self-inside.modulus l.self-inside.sums.items } ≡ l.fn.self;
  sound : IsAccumulator l.self-inside.modulus l.self-inside.limit l.self-inside.sums.items l.self-inside.touched;
}

abbrev pub decreases-loop-column : goal.decreases-loop-column
decreases-loop-column l = extent l.self-inside.touched
