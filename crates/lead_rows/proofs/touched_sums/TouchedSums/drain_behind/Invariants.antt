use Rattle.std.proofs.Common.{◌≡◌, ◌≤◌, ◌+◌, ◌++◌, ℕ, List, length, vec_len, vec_capacity}
use Rattle.lead_rows.specs.Accumulator.{residues_of}
use Rattle.lead_rows.specs.Scattered.{IsTouched}
use Rattle.lead_rows.proofs.Gathering.{IsGathering}
use Rattle.lead_rows.proofs.touched_sums.TouchedSums.drain_behind.Given as goal

abbrev pub invariant-loop-column : goal.invariant-loop-column
invariant-loop-column l = record {
  modulus : l.self-inside.modulus ≡ l.fn.self.modulus;
  sound : IsTouched l.self-inside.modulus l.self-inside.limit l.self-inside.sums.items l.self-inside.touched.items;
  room : vec_len l.cols + length l.self-inside.touched.items ≤ vec_capacity l.cols;
  room_values : vec_len l.vals + length l.self-inside.touched.items ≤ vec_capacity l.vals;
  columns : List ℕ;
  values : List ℕ;
  all_columns : l.cols.items ≡ l.fn.cols.items ++ columns;
  all_values : l.vals.items ≡ l.fn.vals.items ++ values;
  gathered : IsGathering l.self-inside.modulus l.fn.self.row (residues_of l.self-inside.modulus l.self-inside.sums.items) columns values;
}

abbrev pub decreases-loop-column : goal.decreases-loop-column
decreases-loop-column l = length l.self-inside.touched.items
