use Rattle.std.proofs.Common.{ℕ, ◌≡◌, ◌≢◌, ◌<◌, slice_index}
use Rattle.residue_words.specs.Matrix.{entry}
use Rattle.cert_checker.proofs.product.is_zero_along.Given as goal

abbrev pub invariant-loop-k : goal.invariant-loop-k
invariant-loop-k l = (t : ℕ) → t < l.k → (j : ℕ) → entry l.fn.b.matrix (slice_index l.rows t) j ≢ 0 → slice_index l.sums j ≡ 0
