use Rattle.std.proofs.Common.{slice_index, arith, mod-eq_of_lt}
use Rattle.weight_order.proofs.multiples.are_proportional.Goals as goal

pub returns : goal.returns
returns c = λ _. (
  slice_index c.args.values.now 0,
  slice_index c.args.others.now 0,
  (λ z. omega (arith, z, c.requires.positive, mod-eq_of_lt (c.requires.other_residues 0 (omega (arith, c.requires.some, c.requires.long))))),
  λ t l. c.loop-t.invariant t (omega (arith, c.loop-t-test.false, c.loop-t.auto.t-end)),
)
