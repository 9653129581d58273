use Rattle.std.proofs.Common.{ℕ, ◌≡◌, ◌<◌, slice_index}
use Rattle.dense_rows.proofs.dense.Dense.leading_zeros.Given as goal

abbrev pub invariant-loop-j : goal.invariant-loop-j
invariant-loop-j g l = (x : ℕ) → x < l.j → slice_index l.self x ≡ 0
