use Rattle.dense_rows.specs.Products.{IsWritten, columns_of}
use Rattle.dense_rows.proofs.dense.Dense+u32.write_singly.Given as goal

abbrev pub invariant-loop-j : goal.invariant-loop-j
invariant-loop-j l = IsWritten (columns_of l.columns.start l.j) l.values l.fn.self l.self
