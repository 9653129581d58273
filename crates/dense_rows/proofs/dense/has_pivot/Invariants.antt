use Rattle.std.proofs.Common.{ℕ, ◌≡◌, ◌<◌, ◌≤◌, false, slice_index_or}
use Rattle.dense_rows.proofs.dense.has_pivot.Given as goal

abbrev pub invariant-loop-j : goal.invariant-loop-j
invariant-loop-j l = l.any ≡ false → (x : ℕ) → l.from ≤ x → x < l.j → slice_index_or l.taken x false ≡ false
