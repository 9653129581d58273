-- Lines of the script were read and answered; each takes room.
use Rattle.std.proofs.Common.{◌≡◌, None}
use Rattle.sms_text.specs.Reading.{input}
use Rattle.grow_form.proofs.ScriptAnswers.{IsAnswering}
use Rattle.grow_form.proofs.scripts.answer_script.Given as goal

abbrev pub invariant-loop-answers : goal.invariant-loop-answers
invariant-loop-answers g l = record {
  modulus : l.p ≡ l.a.modulus;
  closed : l.reader.open_text ≡ None;
  is : IsAnswering l.a (input l.fn.reader (g.S.Source.state l.fn.source)) (input l.reader (g.S.Source.state l.source)) l.grow l.answers.items;
}

abbrev pub decreases-loop-answers : goal.decreases-loop-answers
decreases-loop-answers g l = l.reader.room
