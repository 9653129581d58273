-- The digits that are not left were put, and there is room for the others.
use Rattle.std.proofs.Common.{◌≡◌, ◌+◌, ◌≤◌, ◌++◌, length, drop}
use Rattle.std.specs.Fmt.{decimal}
use Rattle.sms_text.proofs.six_digits.put_number.Given as goal

abbrev pub invariant-loop-left : goal.invariant-loop-left
invariant-loop-left l = record {
  room : length (decimal l.left) + 5 ≤ l.at;
  within : l.at ≤ l.end;
  place : l.at + length (decimal l.n) ≡ l.end + length (decimal l.left);
  written : decimal l.left ++ drop l.at l.bytes ≡ decimal l.n ++ drop l.end l.fn.bytes;
}

abbrev pub decreases-loop-left : goal.decreases-loop-left
decreases-loop-left l = l.left
