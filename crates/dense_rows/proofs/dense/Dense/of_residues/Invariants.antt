use Rattle.std.proofs.Common.{◌≡◌, ◌≤◌, length, map, take, vec_capacity, vec_len}
use Rattle.dense_rows.proofs.dense.Dense.of_residues.Given as goal

abbrev pub invariant-loop-k : goal.invariant-loop-k
invariant-loop-k g l = record {
  made : map g.W.Residue.value l.places.items ≡ take l.k l.vals;
  count : vec_len l.places ≡ l.k;
  room : length l.vals ≤ vec_capacity l.places;
}
