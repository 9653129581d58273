use Rattle.std.proofs.Common.{ℕ, ◌≡◌, ◌<◌, length, slice_index}
use Rattle.triangular_solve.specs.Listing.{Queued}
use Rattle.triangular_solve.proofs.triangle.queue_ready.Given as goal

abbrev pub invariant-loop-place : goal.invariant-loop-place
invariant-loop-place l = record {
  room : length l.queue ≡ length l.waits;
  covers : (k : ℕ) → k < l.place → slice_index l.waits k ≡ 1 → Queued l.queue k;
}
