use Rattle.std.proofs.Common.{◌+◌, ◌≤◌}
use Rattle.dense_panels.proofs.pieces.count_of_pieces.Given as goal

abbrev pub invariant-loop-left : goal.invariant-loop-left
invariant-loop-left l = record {
  few : l.count + l.left ≤ l.fn.height;
  some : 1 ≤ l.count + l.left;
}

abbrev pub decreases-loop-left : goal.decreases-loop-left
decreases-loop-left l = l.left
