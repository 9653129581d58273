use Rattle.std.proofs.Common.{[], ◌∷◌, ◌∙◌, List, ℕ, subst}
use Rattle.std.specs.Result.{is_ok}
use Rattle.std.proofs.lemmas.List.Elements.{All-cons, All-nil}
use Rattle.dense_panels.specs.Pieces.{IsReducedPiece}
use Rattle.dense_panels.proofs.ReducedPieces.{appended_or_not}
use Rattle.dense_finish.proofs.elimination.Elimination.reduce_share.Goals as goal

pub returns-in_default : goal.returns-in_default
returns-in_default g c = λ block of_block.
    let before = c.loop.invariant.kept block of_block in
    record { known = c.next_piece.ensures.same ∙ before.known; pieces = before.pieces }

pub loop-preserved : goal.loop-preserved
loop-preserved g c = record {
  same = c.next_piece.ensures.same ∙ c.loop.invariant.same;
  kept = λ block of_block.
      let P = IsReducedPiece c.args.self.now.p c.args.found.now.panel in
      let piece = c.in-Some.piece in
      let before = c.loop.invariant.kept block of_block in
      let reduced : P block piece = subst (λ (rows : List (List ℕ)). P rows piece) before.known c.in-Some.ensures.piece in
      record {
        known = c.next_piece.ensures.same ∙ before.known;
        pieces = appended_or_not (P block) (is_ok c.push.result) c.loop.share-inside.pieces.items (piece ∷ []) c.push.new.self.items c.push.ensures.items before.pieces (All-cons (P block) piece [] reduced (All-nil (P block)));
      };
}
