use Rattle.std.specs.Prelude.{◌≡◌}
use Rattle.crossbeam_channel.specs.Claims.{view, IsSeatAt}
use Rattle.crossbeam_channel.specs.Ends.{sends_on}
use Rattle.question_desk.proofs.desk.Desk.take.Given as goal

abbrev pub invariant-loop : goal.invariant-loop
invariant-loop g l = IsSeatAt (sends_on l.self-inside.sender) l.taker-inside.pass × (view l.taker-inside.pass ≡ view l.initial.taker-inside.pass)
