use Rattle.std.proofs.Common.{take}
use Rattle.weight_order.specs.Multiples.{AreRepresentatives}
use Rattle.weight_order.proofs.multiples.distinct.Given as goal

abbrev pub invariant-loop-i : goal.invariant-loop-i
invariant-loop-i l = AreRepresentatives l.rows (take l.i-index l.filled) l.kept.numbers.items
