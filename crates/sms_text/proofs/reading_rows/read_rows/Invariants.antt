-- What was read so far are the header and the entries that were pushed; each line takes room.
use Rattle.sms_text.specs.Reading.{input}
use Rattle.sms_text.proofs.ReadingMatrices.{IsReading}
use Rattle.sms_text.proofs.reading_rows.read_rows.Given as goal

abbrev pub invariant-loop-head : goal.invariant-loop-head
invariant-loop-head g l =
    IsReading l.p l.head l.builder (input l.fn.reader (g.S.Source.state l.fn.source)) (input l.reader (g.S.Source.state l.source))

abbrev pub decreases-loop-head : goal.decreases-loop-head
decreases-loop-head g l = l.reader.room
