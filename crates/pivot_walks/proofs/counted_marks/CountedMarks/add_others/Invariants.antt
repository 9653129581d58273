use Rattle.std.proofs.Common.{◌≡◌, ◌<◌, ◌≤◌, ◌+◌, ℕ, slice_index}
use Rattle.std.specs.List.{Contains}
use Rattle.pivot_walks.specs.MarkedColumns.{Grows}
use Rattle.pivot_walks.proofs.counted_marks.CountedMarks.add_others.Given as goal

abbrev pub invariant-loop-k : goal.invariant-loop-k
invariant-loop-k g l = record {
  width : l.self.width ≡ l.fn.self.width;
  grows : Grows (Contains l.cols) l.fn.self.list l.self.list;
  all : (t : ℕ) → t < l.k → Contains l.self.list (slice_index l.cols t);
  most : l.steps ≤ l.fn.steps + l.k;
  fewer : (t : ℕ) → t < l.k → slice_index l.cols t ≡ l.c → l.steps + 1 ≤ l.fn.steps + l.k;
}
