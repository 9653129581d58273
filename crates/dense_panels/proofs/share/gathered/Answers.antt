use Rattle.std.proofs.Common.{[], All, Some, subst, sym}
use Rattle.std.specs.Result.{is_ok}
use Rattle.std.proofs.lemmas.List.Elements.{All-nil, All-pop, All-same}
use Rattle.dense_panels.specs.Pieces.{IsReducedPiece, IsShareOf, ShareOf}
use Rattle.dense_panels.proofs.ReducedPieces.{appended_or_not}
use Rattle.dense_panels.proofs.share.gathered.Goals as goal

pub loop-share-init : goal.loop-share-init
loop-share-init g c = record {
  each = λ p panel block of_block. (of_block, All-same (IsReducedPiece p panel block) c.new-pieces.result.items [] c.new-pieces.ensures.items (All-nil (IsReducedPiece p panel block)));
}

pub loop-share-preserved : goal.loop-share-preserved
loop-share-preserved g c = record {
  each = λ p panel block of_block.
      let before = c.loop-share.invariant.each p panel block of_block in
      let apart = All-pop (IsShareOf p panel block) c.loop-share.shares.items c.pop.new.self.items (Some c.in-Some.share) c.in-Some.ensures.items before.0 in (
        apart.0,
        appended_or_not (IsReducedPiece p panel block) (is_ok c.append.result) c.loop-share.pieces.items c.share.inside.pieces.items c.append.new.self.items c.append.ensures.items before.1
            (subst (λ (share : ShareOf). All (IsReducedPiece p panel block) share.pieces) (sym c.share.view_is) apart.1.pieces),
      );
}

pub returns : goal.returns
returns g c = λ p panel block of_block. (c.loop-share.invariant.each p panel block of_block).1
