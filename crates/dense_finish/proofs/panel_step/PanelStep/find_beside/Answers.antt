use Rattle.std.proofs.Common.{◌∙◌}
use Rattle.dense_panels.specs.Pieces.{AreNewShares, AreReducedPieces}
use Rattle.dense_panels.proofs.ReducedPieces.{new_made, new_reducible, pieces_lie, put_reduced}
use Rattle.dense_finish.proofs.panel_step.PanelStep.find_beside.Goals as goal

pub find_and_reduce-requires-clause-others : goal.find_and_reduce-requires-clause-others
find_and_reduce-requires-clause-others g c κs within =
    let new : AreNewShares c.args.others.now c.in_ok-shares.shares = rw (c.new.ensures ∙ c.in_ok-queue.ensures.rows) at c.in_ok-shares.ensures in
    new_reducible (record { vectors = c.requires.others; pivots = c.requires.ready.holds.pivots; units = c.requires.ready.units }) new

pub put_pieces-requires : goal.put_pieces-requires
put_pieces-requires g c =
    let pieces = c.in_ok-next.pieces in
    let new : AreNewShares c.args.others.now c.in_ok-shares.shares = rw (c.new.ensures ∙ c.in_ok-queue.ensures.rows) at c.in_ok-shares.ensures in
    let made : AreReducedPieces c.args.self.now.elimination.now.p c.args.self.now.found.panel c.args.others.now pieces = new_made pieces new c.in_ok-next.ensures.others in
    (search, (search, pieces_lie _ pieces.items c.queue_of.ensures.long made))

pub returns-clause-others : goal.returns-clause-others
returns-clause-others g c =
    let pieces = c.in_ok-next.pieces in
    let new : AreNewShares c.args.others.now c.in_ok-shares.shares = rw (c.new.ensures ∙ c.in_ok-queue.ensures.rows) at c.in_ok-shares.ensures in
    let made : AreReducedPieces c.args.self.now.elimination.now.p c.args.self.now.found.panel c.args.others.now pieces = new_made pieces new c.in_ok-next.ensures.others in
    put_reduced pieces.items c.put_pieces.new.rows made (c.put_pieces.auto.rows ∙ c.queue_of.ensures.long) c.in_ok-put_pieces.ensures
