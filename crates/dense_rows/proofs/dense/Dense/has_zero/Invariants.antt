use Rattle.std.proofs.Common.{ℕ, ◌≡◌, ◌<◌, ◌≤◌, false, slice_index}
use Rattle.dense_rows.proofs.dense.Dense.has_zero.Given as goal

abbrev pub invariant-loop-j : goal.invariant-loop-j
invariant-loop-j g l = l.any ≡ false → (x : ℕ) → l.start ≤ x → x < l.j → 0 < slice_index l.self x
