use Rattle.std.proofs.Common.{arith}
use Rattle.column_lists.proofs.Parts.{joined_more}
use Rattle.column_lists.proofs.consecutive_parts.append_starts.Goals as goal

pub loop-k-preserved : goal.loop-k-preserved
loop-k-preserved c = record {
  low = omega arith;
  joined = rw (c.push_reserved.ensures.items) (joined_more c.args.by _ c.args.from.now _ c.loop-k.k c.loop-k.invariant.low c.loop-k-test.true c.loop-k.invariant.joined);
  room = let r = c.loop-k.invariant.room in let m = c.push_reserved.ensures.capacity in let n = c.push_reserved.ensures.len in omega arith;
}
