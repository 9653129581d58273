use Rattle.std.proofs.Common.{arith}
use Rattle.weight_order.proofs.Keeping.{no_more, turning_keeps}
use Rattle.weight_order.proofs.Shape.{order_enough}
use Rattle.weight_order.proofs.columns_in_order.Goals as goal

pub transpose_select-requires-clause-many : goal.transpose_select-requires-clause-many
transpose_select-requires-clause-many c = omega (arith, no_more c.requires, c.is_sound.ensures.width)

pub transpose_select-requires-clause-columns : goal.transpose_select-requires-clause-columns
transpose_select-requires-clause-columns c = order_enough c.is_sound.ensures.entries c.requires

pub returns-clause-rank : goal.returns-clause-rank
returns-clause-rank c =
    turning_keeps (omega (arith, c.is_sound.ensures.two_or_more)) c.is_sound.ensures.entries c.requires c.in_ok-turned.ensures.modulus c.in_ok-turned.ensures.matrix
