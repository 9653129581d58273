use Rattle.lead_rows.proofs.Accumulating.{cleared}
use Rattle.lead_rows.proofs.Touched.{taken_falls, untouched}
use Rattle.lead_rows.proofs.accumulator.Accumulator.clear.Goals as goal

pub loop-column-smaller : goal.loop-column-smaller
loop-column-smaller c = taken_falls c.in-Some.ensures.some

pub returns : goal.returns
returns c = cleared c.args.self.now c.loop-column.invariant.sound.limited (untouched c.loop-column.invariant.sound.touched c.in_default.ensures.none.1) c.loop-column.invariant.modulus c.loop-column.invariant.len
