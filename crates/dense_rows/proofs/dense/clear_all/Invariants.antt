use Rattle.std.proofs.Common.{ℕ, ◌≡◌, ◌<◌, map, slice_index}
use Rattle.dense_rows.proofs.dense.clear_all.Given as goal

abbrev pub invariant-loop-k : goal.invariant-loop-k
invariant-loop-k g l = (x : ℕ) → x < l.k → slice_index (map g.W.Residue.value l.places) x ≡ 0
