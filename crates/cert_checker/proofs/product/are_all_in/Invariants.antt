use Rattle.std.proofs.Common.{ℕ, ◌<◌, slice_index}
use Rattle.std.specs.List.{Contains}
use Rattle.cert_checker.proofs.product.are_all_in.Given as goal

abbrev pub invariant-loop-k : goal.invariant-loop-k
invariant-loop-k l = (t : ℕ) → t < l.k → Contains l.rising (slice_index l.numbers t)
