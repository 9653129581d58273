use Rattle.std.proofs.Common.{ℕ, List, All, length}
use Rattle.dense_panels.specs.Panel.{PanelRows}
use Rattle.dense_panels.specs.Pieces.{AreSharesOf, IsReducedPiece}
use Rattle.dense_panels.proofs.share.gathered.Given as goal

abbrev pub invariant-loop-share : goal.invariant-loop-share
invariant-loop-share g l = record {
  each : (p : ℕ) (panel : PanelRows) (block : List (List ℕ)) → AreSharesOf p panel block l.fn.shares.items →
      AreSharesOf p panel block l.shares.items × All (IsReducedPiece p panel block) l.pieces.items;
}

abbrev pub decreases-loop-share : goal.decreases-loop-share
decreases-loop-share g l = length l.shares.items
