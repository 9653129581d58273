use Rattle.std.proofs.Common.{ℕ, ◌≡◌, ◌<◌, get_or}
use Rattle.fl_pivots.specs.declared.beginning.Beginning.{Beginning}
use Rattle.fl_pivots.proofs.Taking.{IsTaking}
use Rattle.fl_pivots.proofs.take_first.Given as goal

abbrev pub invariant-loop-beginning : goal.invariant-loop-beginning
invariant-loop-beginning l = record {
  rows : l.book.rows ≡ l.fn.book.rows;
  taking : IsTaking l.fn.book.rows.matrix l.book.pairs l.next;
  passed : (t : ℕ) (d : Beginning) → t < l.beginning-index → (get_or l.beginnings t d).column < l.next;
}
