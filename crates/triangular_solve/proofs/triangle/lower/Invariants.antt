use Rattle.std.proofs.Common.{ℕ, ◌≡◌, ◌+◌, ◌<◌, length, slice_index}
use Rattle.triangular_solve.specs.Listing.{Queued}
use Rattle.triangular_solve.proofs.Changing.{IsChangedBy, Touched}
use Rattle.triangular_solve.proofs.triangle.lower.Given as goal

abbrev pub invariant-loop-column : goal.invariant-loop-column
invariant-loop-column l = record {
  changed : IsChangedBy (Touched l.columns l.cols l.column-index) (λ a b. b + 1 ≡ a) (length l.columns) l.fn.waits l.waits;
  room : length l.queue ≡ length l.fn.queue;
  queued : (k : ℕ) → Queued l.fn.queue k → Queued l.queue k;
  pushed : (k : ℕ) → k < length l.columns → Touched l.columns l.cols l.column-index k → slice_index l.waits k ≡ 1 → Queued l.queue k;
}
