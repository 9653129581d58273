use Rattle.std.proofs.Common.{ℕ, ◌≡◌, ◌<◌, ◌≤◌, ◌-◌, false, length, slice_index, slice_index_or}
use Rattle.dense_rows.proofs.dense.Dense.free_blocks.Given as goal

abbrev pub invariant-loop-at : goal.invariant-loop-at
invariant-loop-at g l = record {
  within : l.at ≤ length l.taken;
  zeros : (x : ℕ) → x < l.at → slice_index_or l.taken x false ≡ false → slice_index l.self x ≡ 0;
}

abbrev pub decreases-loop-at : goal.decreases-loop-at
decreases-loop-at g l = length l.taken - l.at
