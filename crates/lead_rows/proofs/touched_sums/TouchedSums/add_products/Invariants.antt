use Rattle.std.proofs.Common.{◌≤◌, ◌+◌, ◌-◌, length, vec_len, vec_capacity}
use Rattle.sparse_rows.proofs.Adding.{IsAddingTo}
use Rattle.lead_rows.specs.Accumulator.{residues_of}
use Rattle.lead_rows.specs.Scattered.{IsTouched}
use Rattle.lead_rows.proofs.Accumulating.{as_row}
use Rattle.lead_rows.proofs.touched_sums.TouchedSums.add_products.Given as goal

abbrev pub invariant-loop-k : goal.invariant-loop-k
invariant-loop-k l = record {
  sound : IsTouched l.self-inside.modulus l.self-inside.limit l.self-inside.sums.items l.self-inside.touched.items;
  adding : IsAddingTo l.by l.cols l.vals l.k l.fn.self (as_row l.self-inside.modulus (residues_of l.self-inside.modulus l.self-inside.sums.items));
  room : vec_len l.self-inside.touched + (length l.cols - l.k) ≤ vec_capacity l.self-inside.touched;
}
