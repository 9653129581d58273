use Rattle.std.proofs.Common.{ℕ, ◌≡◌, length, slice_index}
use Rattle.lead_rows.proofs.Extent.{extent}
use Rattle.triangular_solve.specs.Listing.{Queued}
use Rattle.triangular_solve.proofs.triangle.next_ready.Given as goal

abbrev pub invariant-loop-place : goal.invariant-loop-place
invariant-loop-place l = record {
  room : length l.queue ≡ length l.fn.queue;
  kept : (k : ℕ) → Queued l.queue k → Queued l.fn.queue k;
  ready : (k : ℕ) → Queued l.fn.queue k → slice_index l.waits k ≡ 1 → Queued l.queue k;
}

abbrev pub decreases-loop-place : goal.decreases-loop-place
decreases-loop-place l = extent l.queue
