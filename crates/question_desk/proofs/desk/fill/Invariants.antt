use Rattle.std.specs.Prelude.{◌≡◌}
use Rattle.crossbeam_channel.specs.Claims.{view, IsSeatAt}
use Rattle.crossbeam_channel.specs.Ends.{sends_on}
use Rattle.question_desk.specs.Rule.{known_filling}
use Rattle.question_desk.proofs.desk.fill.Given as goal

abbrev pub invariant-loop-number : goal.invariant-loop-number
invariant-loop-number g l = IsSeatAt (sends_on l.sender) l.pass × (view l.pass ≡ known_filling l.number)
