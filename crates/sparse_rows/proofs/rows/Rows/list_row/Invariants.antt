use Rattle.std.proofs.Common.{◌≡◌, ◌++◌, take}
use Rattle.sparse_rows.specs.Rows.{row_triples}
use Rattle.sparse_rows.proofs.rows.Rows.list_row.Given as goal

abbrev pub invariant-loop-k : goal.invariant-loop-k
invariant-loop-k l = l.triples.items ≡ l.fn.triples.items ++ row_triples l.i (take l.k l.cols) (take l.k l.vals)
