use Rattle.std.proofs.Common.{ℕ, ◌≢◌, ◌<◌, slice_index}
use Rattle.grow_form.proofs.numbering.Numbering.have_come.Given as goal

abbrev pub invariant-loop-k : goal.invariant-loop-k
invariant-loop-k l = (t : ℕ) → t < l.k → slice_index l.self.arrivals (slice_index l.cols t) ≢ 0
