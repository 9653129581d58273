use Rattle.std.proofs.Common.{◌≡◌, drop, take}
use Rattle.dense_panels.proofs.shared_pieces.moved_piece.Given as goal

abbrev pub invariant-loop-t : goal.invariant-loop-t
invariant-loop-t g l = record {
  moved : l.moved.items ≡ take l.t l.fn.rows;
  left : drop l.t l.rows ≡ drop l.t l.fn.rows;
}
