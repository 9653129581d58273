use Rattle.std.proofs.Common.{◌≡◌}
use Rattle.dense_panels.specs.Pieces.{KeepsShare}
use Rattle.dense_finish.proofs.elimination.Elimination.reduce_share.Given as goal

abbrev pub invariant-loop : goal.invariant-loop
invariant-loop g l = record {
  same : l.share-inside.taker ≡ l.fn.share.known;
  kept : KeepsShare l.self.p l.found.panel l.fn.share (record { known = l.share-inside.taker; pieces = l.share-inside.pieces.items });
}
