use Rattle.std.proofs.Common.{ℕ, ◌≡◌, ◌<◌, slice_index}
use Rattle.cert_checker.proofs.product.is_zero_at.Given as goal

abbrev pub invariant-loop-q : goal.invariant-loop-q
invariant-loop-q l = (k : ℕ) → k < l.q → slice_index l.sums (slice_index l.cols k) ≡ 0
