use Rattle.std.proofs.Common.{◌≡◌, All}
use Rattle.dense_panels.specs.Pieces.{new_share}
use Rattle.dense_panels.proofs.share.Share.several.Given as goal

abbrev pub invariant-loop : goal.invariant-loop
invariant-loop g l = record {
  same : l.taker ≡ l.fn.taker;
  shares : All (λ share. share ≡ new_share l.fn.taker) l.shares.items;
}
