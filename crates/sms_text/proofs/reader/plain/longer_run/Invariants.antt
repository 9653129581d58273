use Rattle.std.proofs.Common.{◌-◌, ◌<◌, length}
use Rattle.sms_text.specs.PlainLines.{AreDigitsAt}
use Rattle.sms_text.proofs.reader.plain.longer_run.Given as goal

abbrev pub invariant-loop-end : goal.invariant-loop-end
invariant-loop-end l = record {
  digits : AreDigitsAt l.bytes l.at l.end l.number;
  some : l.at < l.end;
}

abbrev pub decreases-loop-end : goal.decreases-loop-end
decreases-loop-end l = length l.bytes - l.end
