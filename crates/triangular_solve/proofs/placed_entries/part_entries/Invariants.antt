use Rattle.std.proofs.Common.{◌≡◌, ◌≤◌, length, take}
use Rattle.std.specs.Prelude.{vec_capacity, vec_len}
use Rattle.triangular_solve.proofs.PlacingEntries.{places_of, values_of}
use Rattle.triangular_solve.proofs.placed_entries.part_entries.Given as goal

abbrev pub invariant-loop-entry : goal.invariant-loop-entry
invariant-loop-entry l = record {
  places : l.places.items ≡ places_of (take l.entry-index l.entries);
  values : l.values.items ≡ values_of (take l.entry-index l.entries);
  places_len : vec_len l.places ≡ l.entry-index;
  values_len : vec_len l.values ≡ l.entry-index;
  places_room : length l.entries ≤ vec_capacity l.places;
  values_room : length l.entries ≤ vec_capacity l.values;
}
