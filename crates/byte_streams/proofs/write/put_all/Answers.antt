use Rattle.std.proofs.Common.{arith}
use Rattle.byte_streams.proofs.Puts.{behind_take, fault_take}
use Rattle.byte_streams.proofs.write.put_all.Goals as goal

pub loop-at-preserved : goal.loop-at-preserved
loop-at-preserved g c = record {
  within = omega (arith, c.in-Took.ensures.1, c.split_at.ensures.back_len);
  held = behind_take _ _ _ _ _ _ c.loop-at.invariant.held (rw c.split_at.ensures.back at c.in-Took.ensures.2);
}

pub returns-in-Failed : goal.returns-in-Failed
returns-in-Failed g c = fault_take _ (g.K.Sink.state c.args.out.now) (g.K.Sink.state c.loop-at.out) (g.K.Sink.state c.put.new.self) c.loop-at.at c.args.piece.now c.loop-at.invariant.held c.in-Failed.ensures
