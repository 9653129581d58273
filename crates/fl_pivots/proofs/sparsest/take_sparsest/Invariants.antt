use Rattle.std.proofs.Common.{◌≡◌}
use Rattle.fl_pivots.proofs.Taking.{IsTaking}
use Rattle.fl_pivots.proofs.sparsest.take_sparsest.Given as goal

abbrev pub invariant-loop-column : goal.invariant-loop-column
invariant-loop-column l = record {
  rows : l.book.rows ≡ l.fn.book.rows;
  taking : IsTaking l.fn.book.rows.matrix l.book.pairs l.column;
}
