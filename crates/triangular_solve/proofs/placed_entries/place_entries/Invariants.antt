use Rattle.std.proofs.Common.{◌≤◌, length}
use Rattle.std.specs.Prelude.{vec_capacity, vec_len}
use Rattle.triangular_solve.proofs.PlacingEntries.{ArePlacedSoFar}
use Rattle.triangular_solve.proofs.placed_entries.place_entries.Given as goal

abbrev pub invariant-loop-k : goal.invariant-loop-k
invariant-loop-k l = record {
  placed : ArePlacedSoFar l.order l.cols l.vals l.k l.entries.items;
  few : vec_len l.entries ≤ l.k;
  room : length l.cols ≤ vec_capacity l.entries;
}
