use Rattle.schur_rows.specs.PivotNumbers.{AreNumbersOf}
use Rattle.schur_rows.proofs.pivot_numbers.numbers_of.Given as goal

abbrev pub invariant-loop-k : goal.invariant-loop-k
invariant-loop-k l = AreNumbersOf l.pairs l.rows l.k l.numbers.items
