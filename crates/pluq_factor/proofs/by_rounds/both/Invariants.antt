use Rattle.std.proofs.Common.{◌≡◌, ◌++◌, take}
use Rattle.pluq_factor.proofs.by_rounds.both.Given as goal

abbrev pub invariant-loop-pair : goal.invariant-loop-pair
invariant-loop-pair l = l.list ≡ l.first ++ take l.pair-index l.second
