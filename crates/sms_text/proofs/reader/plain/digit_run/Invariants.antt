use Rattle.std.proofs.Common.{◌+◌, ◌^◌, ◌<◌}
use Rattle.sms_text.specs.PlainLines.{AreDigitsAt}
use Rattle.sms_text.proofs.reader.plain.digit_run.Given as goal

abbrev pub invariant-loop-k : goal.invariant-loop-k
invariant-loop-k l = record {
  digits : AreDigitsAt l.bytes l.at (l.at + l.k) l.number;
  small : l.number < 10 ^ l.k;
}
