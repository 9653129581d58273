use Rattle.std.proofs.Common.{◌≡◌, take}
use Rattle.sms_text.specs.PlainLines.{with_entries_pushed}
use Rattle.sms_text.proofs.reading_rows.push_all.Given as goal

abbrev pub invariant-loop-entry : goal.invariant-loop-entry
invariant-loop-entry l = l.builder ≡ with_entries_pushed l.fn.builder (take l.entry-index l.entries)
