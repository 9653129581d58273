use Rattle.std.proofs.Common.{ap, ◌∙◌}
use Rattle.question_desk.specs.declared.known_numbers.KnownNumbers.{KnownNumbers}
use Rattle.question_desk.proofs.Serving.{gives, puts_end}
use Rattle.question_desk.proofs.desk.Desk.take.Goals as goal

pub try_recv_as-requires-clause-rule : goal.try_recv_as-requires-clause-rule
try_recv_as-requires-clause-rule g c = (gives _ _, λ items views k at. tt)

pub try_send_as-requires-clause-rule : goal.try_send_as-requires-clause-rule
try_send_as-requires-clause-rule g c = (puts_end _ _ _ (ap (λ (h : KnownNumbers). h.fills) (c.in-Err.ensures.rule.0 ∙ c.loop.invariant.1) ∙ c.taker.invariant.1), λ items views k at. tt)
