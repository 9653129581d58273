use Rattle.std.proofs.Common.{arith}
use Rattle.fl_pivots.proofs.Listing.{listed_more, listed_passes}
use Rattle.fl_pivots.proofs.beginning.beginnings.Goals as goal

pub overflow_add-from : goal.overflow_add-from
overflow_add-from c = record { fits = omega (arith, c.in-Some.ensures.below, c.is_sound.ensures.height) }

pub loop-i-preserved : goal.loop-i-preserved
loop-i-preserved c = rw c.in_ok-push.ensures.items (listed_more (listed_passes c.is_sound.ensures.entries c.loop-i.invariant c.in-Some.ensures.between) c.of.result c.of.ensures)

pub returns : goal.returns
returns c = listed_passes c.is_sound.ensures.entries c.loop-i.invariant c.in_default.ensures
