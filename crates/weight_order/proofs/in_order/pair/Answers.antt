use Rattle.std.proofs.Common.{refl, arith}
use Rattle.weight_order.proofs.Rearranging.{paired_more}
use Rattle.weight_order.proofs.in_order.pair.Goals as goal

pub loop-k-preserved : goal.loop-k-preserved
loop-k-preserved c = record {
  paired = paired_more c.args.places.now c.args.cols.now c.args.vals.now c.loop-k.k _ c.loop-k.invariant.paired refl c.push_reserved.ensures.items;
  len = omega (arith, c.push_reserved.ensures.len, c.loop-k.invariant.len);
  room = omega (arith, c.push_reserved.ensures.capacity, c.loop-k.invariant.room);
}
