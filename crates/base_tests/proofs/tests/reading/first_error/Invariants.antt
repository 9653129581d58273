use Rattle.std.proofs.Common.{◌≡◌, Some}
use Rattle.base_tests.proofs.tests.reading.first_error.Given as goal

abbrev pub invariant-loop : goal.invariant-loop
invariant-loop l = l.reader.open_text ≡ Some (l.head.m, l.head.n)
