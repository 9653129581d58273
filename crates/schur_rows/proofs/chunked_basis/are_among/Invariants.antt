use Rattle.std.proofs.Common.{ℕ, ◌<◌, slice_index}
use Rattle.std.specs.List.{Contains}
use Rattle.schur_rows.proofs.chunked_basis.are_among.Given as goal

abbrev pub invariant-loop-k : goal.invariant-loop-k
invariant-loop-k l = (t : ℕ) → t < l.k → Contains l.others (slice_index l.columns t)
