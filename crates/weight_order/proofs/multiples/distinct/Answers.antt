use Rattle.weight_order.proofs.Dropping.{kept_inside, kept_next, taken_below}
use Rattle.weight_order.proofs.multiples.distinct.Goals as goal

pub add-requires-clause-inside : goal.add-requires-clause-inside
add-requires-clause-inside c = kept_inside (taken_below c.requires c.loop-i.i-index) c.loop-i.invariant

pub loop-i-preserved : goal.loop-i-preserved
loop-i-preserved c = kept_next c.is_sound.ensures.entries c.requires c.loop-i-test.true c.loop-i.invariant c.in_ok-add.ensures
