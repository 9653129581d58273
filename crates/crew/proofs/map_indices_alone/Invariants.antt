use Rattle.std.proofs.Common.{◌≡◌, length}
use Rattle.std.specs.Fork.{GivesEach}
use Rattle.crew.proofs.map_indices_alone.Given as goal

abbrev pub invariant-loop-i : goal.invariant-loop-i
invariant-loop-i g l = (length l.all.items ≡ l.i) × GivesEach g.F.Fn l.f l.i l.all.items
