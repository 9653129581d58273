use Rattle.std.proofs.Common.{arith}
use Rattle.lead_rows.proofs.Accumulating.{new_residues}
use Rattle.std.proofs.Common.{arith}
use Rattle.lead_rows.proofs.accumulator.Accumulator.new.Goals as goal

pub returns : goal.returns
returns c = new_residues c.args.p.now c.args.n _ (omega (arith, c.p.ensures.value, c.p.ensures.two_or_more)) (c.in_ok-vec.ensures.items_if_clones_equal (λ y e. e))
