use Rattle.matrix_cells.proofs.Renumbering.{renumbered_next}
use Rattle.matrix_cells.proofs.values_at_places.renumbered.Goals as goal

pub loop-k-preserved : goal.loop-k-preserved
loop-k-preserved c =
    renumbered_next c.args.rows.now c.args.cells.now c.loop-k.k _ _ _ _ _ c.requires c.loop-k-test.true c.loop-k.invariant c.in_ok-push.ensures.items c.new.ensures.place c.new.ensures.val c.column.ensures
