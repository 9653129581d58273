use Rattle.std.proofs.Common.{arith}
use Rattle.sparse_rows.proofs.FilledRows.{filled_more}
use Rattle.sparse_rows.proofs.rows.Rows.filled.Goals as goal

pub overflow_add-from : goal.overflow_add-from
overflow_add-from c = record { fits = omega (arith, c.in-Some.ensures.below, c.is_sound.ensures.height) }

pub loop-i-preserved : goal.loop-i-preserved
loop-i-preserved c = rw c.in_ok-push.ensures.items (filled_more _ _ _ _ c.loop-i.invariant c.in-Some.ensures)
