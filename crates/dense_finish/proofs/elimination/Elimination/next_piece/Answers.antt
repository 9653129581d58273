use Rattle.std.proofs.Common.{◌∙◌, List, ℕ, ap, length, subst, sym}
use Rattle.std.proofs.lemmas.List.{with_items_is}
use Rattle.dense_panels.specs.Panel.{PanelReducesEach}
use Rattle.dense_panels.specs.Pieces.{AreReducible, IsReducedPiece, RowsFrom}
use Rattle.dense_panels.proofs.ReducedPieces.{piece_reduced, piece_reducible}
use Rattle.dense_finish.proofs.elimination.Elimination.next_piece.Goals as goal

pub take_out-requires-clause-ready : goal.take_out-requires-clause-ready
take_out-requires-clause-ready g c κs within =
    let same = c.deref_mut.ensures.value ∙ ap (λ (n : RowsFrom). n.rows) c.piece.view_is in
    subst (AreReducible c.args.self.now.p c.args.found.now) (sym same) (piece_reducible c.in_ok-piece.ensures.piece c.requires.ready)

pub returns-clause-piece : goal.returns-clause-piece
returns-clause-piece g c =
    let p = c.args.self.now.p in
    let panel = c.args.found.now.panel in
    let same = c.deref_mut.ensures.value ∙ ap (λ (n : RowsFrom). n.rows) c.piece.view_is in
    let rows = c.piece.inside.rows in
    let left = c.take_out.new.rows in
    let whole = with_items_is rows left (c.take_out.auto.rows ∙ ap length c.deref_mut.ensures.value ∙ sym rows.ok.0) in
    subst (λ (rows : List (List ℕ)). IsReducedPiece p panel c.args.taker.now (record { start = c.piece.inside.start; rows = rows })) (sym whole)
    (piece_reduced c.in_ok-piece.piece (record { start = c.piece.inside.start; rows = left }) c.in_ok-piece.ensures.piece (ap (λ (n : RowsFrom). n.start) c.piece.view_is) (c.take_out.auto.rows ∙ ap length same)
    (subst (λ rows. PanelReducesEach p panel rows left) same c.take_out.ensures))
