use Rattle.std.proofs.Common.{◌≡◌, ◌≤◌, length, map, take, vec_capacity, vec_len}
use Rattle.dense_rows.proofs.dense.Dense.entries_from.Given as goal

abbrev pub invariant-loop-k : goal.invariant-loop-k
invariant-loop-k g l = record {
  made : l.entries.items ≡ take l.k (map g.W.Residue.value l.places);
  count : vec_len l.entries ≡ l.k;
  room : length l.places ≤ vec_capacity l.entries;
}
