use Rattle.std.proofs.Common.{subst, sym}
use Rattle.lead_rows.specs.Scattered.{IsTouched}
use Rattle.lead_rows.proofs.Accumulating.{added, column_inside}
use Rattle.lead_rows.proofs.touched_sums.TouchedSums.add.Goals as goal

pub invariant_of-self-2 : goal.invariant_of-self-2
invariant_of-self-2 c =
    c.add_touched.ensures.touched c.self.inside.modulus (subst (IsTouched c.self.inside.modulus c.self.inside.limit c.self.inside.sums.items) (sym c.in_ok-reserve.ensures.items) c.self.invariant)

pub returns : goal.returns
returns c = added c.self.view_is c.self.invariant.limited (column_inside c.self.inside.sums.items c.args.j c.self.view_is c.requires.column) c.add_touched.ensures.sums
