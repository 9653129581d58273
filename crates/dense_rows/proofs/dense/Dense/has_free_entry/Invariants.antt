use Rattle.std.proofs.Common.{ℕ, ◌≡◌, ◌<◌, ◌≤◌, false, slice_index, slice_index_or}
use Rattle.dense_rows.proofs.dense.Dense.has_free_entry.Given as goal

abbrev pub invariant-loop-j : goal.invariant-loop-j
invariant-loop-j g l = l.any ≡ false → (x : ℕ) → l.start ≤ x → x < l.j → slice_index_or l.taken x false ≡ false → slice_index l.self x ≡ 0
