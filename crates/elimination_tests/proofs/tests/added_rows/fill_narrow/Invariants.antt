use Rattle.std.proofs.Common.{ℕ, ◌<◌, get_or}
use Rattle.elimination_tests.proofs.tests.added_rows.fill_narrow.Given as goal

abbrev pub invariant-loop-k : goal.invariant-loop-k
invariant-loop-k l = (k : ℕ) → k < l.k → get_or l.out k 0 < l.p
