-- The answers before k were added.
use Rattle.std.proofs.Common.{drop}
use Rattle.byte_streams.proofs.Added.{IsAdded}
use Rattle.sms_text.specs.Writing.{output}
use Rattle.grow_form.specs.Scripts.{answers_text}
use Rattle.grow_form.proofs.writing.add_answers.Given as goal

abbrev pub invariant-loop-k : goal.invariant-loop-k
invariant-loop-k g l =
    IsAdded (answers_text l.answers) (answers_text (drop l.k l.answers)) (output l.fn.blocks (g.K.Sink.state l.fn.out)) (output l.blocks (g.K.Sink.state l.out))
