use Rattle.std.proofs.Common.{ap, sym}
use Rattle.question_desk.specs.declared.known_numbers.KnownNumbers.{KnownNumbers}
use Rattle.question_desk.proofs.Serving.{puts_number}
use Rattle.question_desk.proofs.desk.fill.Goals as goal

pub send_as-requires-clause-rule : goal.send_as-requires-clause-rule
send_as-requires-clause-rule g c = (
  puts_number _ _ _ _ (ap (λ (h : KnownNumbers). h.fills) c.loop-number.invariant.1) (sym (ap (λ (h : KnownNumbers). h.count) c.loop-number.invariant.1)),
  λ items views k at. tt,
)
