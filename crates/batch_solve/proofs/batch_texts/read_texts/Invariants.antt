-- The texts so far were read.
use Rattle.std.proofs.Common.{◌≡◌, length}
use Rattle.sms_text.specs.Reading.{input}
use Rattle.batch_solve.proofs.BatchReading.{HasRead}
use Rattle.batch_solve.proofs.batch_texts.read_texts.Given as goal

abbrev pub invariant-loop : goal.invariant-loop
invariant-loop g l =
    HasRead l.p l.count l.texts.items (input l.initial.reader (g.S.Source.state l.fn.source)) (input l.reader (g.S.Source.state l.source))
    × (length l.texts.items ≡ l.counter)
