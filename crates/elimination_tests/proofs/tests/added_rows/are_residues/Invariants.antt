use Rattle.std.proofs.Common.{ℕ, ◌<◌, get_or}
use Rattle.elimination_tests.proofs.tests.added_rows.are_residues.Given as goal

abbrev pub invariant-loop-x : goal.invariant-loop-x
invariant-loop-x l = (k : ℕ) → k < l.x-index → get_or l.row k 0 < l.p
