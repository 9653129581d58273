use Rattle.std.proofs.Common.{ℕ, ◌+◌, ◌≢◌, ◌<◌, ◌≤◌, slice_index}
use Rattle.grow_form.specs.Numbering.{ComesBehind}
use Rattle.grow_form.proofs.numbering.Numbering.note.Given as goal

abbrev pub invariant-loop-k : goal.invariant-loop-k
invariant-loop-k l = record {
  behind : ComesBehind l.fn.self l.self;
  few : l.self.count ≤ l.fn.self.count + l.k;
  come : (t : ℕ) → t < l.k → slice_index l.self.arrivals (slice_index l.cols t) ≢ 0;
}
