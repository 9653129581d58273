use Rattle.spasm_timed.proofs.Keeps.{keeps}
use Rattle.spasm_timed.proofs.added_rows.plainly.Goals as goal

pub loop-round-preserved : goal.loop-round-preserved
loop-round-preserved c = keeps c.args.p.now c.args.a c.loop-round.out c.args.y.now c.axpy_plainly.new.out c.requires.factor c.axpy_plainly.ensures c.loop-round.invariant.0
