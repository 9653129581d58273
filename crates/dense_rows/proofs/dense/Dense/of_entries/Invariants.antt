use Rattle.dense_rows.proofs.Filling.{IsFilling}
use Rattle.dense_rows.proofs.dense.Dense.of_entries.Given as goal

abbrev pub invariant-loop-k : goal.invariant-loop-k
invariant-loop-k g l = IsFilling l.p l.columns l.cols l.vals l.k l.row
