use Rattle.std.proofs.Common.{ap, arith, length}
use Rattle.sparse_rows.proofs.FilledRows.{weights_more}
use Rattle.column_lists.proofs.Rising.{rising_short}
use Rattle.sparse_rows.proofs.rows.Rows.row_weights.Goals as goal

pub overflow_add-from : goal.overflow_add-from
overflow_add-from c = record { fits = omega (arith, c.in-Some.ensures.below, c.is_sound.ensures.height) }

pub overflow_cast-cols : goal.overflow_cast-cols
overflow_cast-cols c = record {
  fits = omega (arith, rising_short c.cols.result.now c.args.self.now.matrix.width c.cols.ensures.ascending c.cols.ensures.below_width, c.is_sound.ensures.width);
}

pub loop-i-preserved : goal.loop-i-preserved
loop-i-preserved c = rw c.in_ok-push.ensures.items (weights_more _ _ _ _ _ c.loop-i.invariant c.in-Some.ensures (ap length c.cols.ensures.support))
