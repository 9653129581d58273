use Rattle.std.proofs.Common.{◌≡◌, ◌≤◌, ◌-◌, drop, length, take, true}
use Rattle.crossbeam_queue.specs.Passes.{view, IsPassOf}
use Rattle.dense_panels.proofs.shared_pieces.queue_of.Given as goal

abbrev pub invariant-loop-at : goal.invariant-loop-at
invariant-loop-at g l = record {
  inside : l.at ≤ length l.fn.rows;
  pass : IsPassOf l.queue l.pass;
  alone : (view l.pass).alone ≡ true;
  put : (view l.pass).rows ≡ take l.at l.fn.rows;
  left : drop l.at l.rows ≡ drop l.at l.fn.rows;
}

abbrev pub decreases-loop-at : goal.decreases-loop-at
decreases-loop-at g l = length l.fn.rows - l.at
