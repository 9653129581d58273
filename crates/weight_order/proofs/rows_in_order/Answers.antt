use Rattle.std.proofs.Common.{arith}
use Rattle.weight_order.proofs.Keeping.{each_filled, no_more, selecting_keeps}
use Rattle.weight_order.proofs.rows_in_order.Goals as goal

pub select-requires-clause-many : goal.select-requires-clause-many
select-requires-clause-many c = omega (arith, no_more c.requires, c.is_sound.ensures.height)

pub select-requires-clause-inside : goal.select-requires-clause-inside
select-requires-clause-inside c = (each_filled c.requires).inside

pub returns-clause-rank : goal.returns-clause-rank
returns-clause-rank c =
    selecting_keeps (omega (arith, c.is_sound.ensures.two_or_more)) c.is_sound.ensures.entries c.requires c.in_ok-picked.ensures.modulus c.in_ok-picked.ensures.matrix
