use Rattle.std.proofs.Common.{◌-◌, length}
use Rattle.sms_text.specs.PlainLines.{AreEntryLines}
use Rattle.sms_text.proofs.reader.plain.plain_entries.Given as goal

abbrev pub invariant-loop-line : goal.invariant-loop-line
invariant-loop-line l = AreEntryLines l.p l.head l.bytes l.at l.entries.items

abbrev pub decreases-loop-line : goal.decreases-loop-line
decreases-loop-line l = length l.bytes - l.at
