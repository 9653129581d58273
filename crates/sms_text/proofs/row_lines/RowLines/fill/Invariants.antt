-- The lines of the entries from k on were put.
use Rattle.std.proofs.Common.{◌≡◌, ◌+◌, ◌*◌, ◌≤◌, ◌∷◌, length, drop}
use Rattle.sms_text.specs.Written.{entry_lines}
use Rattle.sms_text.proofs.row_lines.RowLines.fill.Given as goal

abbrev pub invariant-loop-k : goal.invariant-loop-k
invariant-loop-k l = record {
  within : l.at ≤ 4095;
  room : 4095 + 43 * l.k ≤ l.at + 43 * length l.cols;
  written : drop l.at l.self-inside.bytes ≡ 10 ∷ entry_lines l.i (drop l.k l.cols) (drop l.k l.vals);
}
