use Rattle.std.proofs.Common.{◌≡◌}
use Rattle.residue_words.specs.Matrix.{list_of}
use Rattle.sparse_rows.proofs.Loops.{product_entry}
use Rattle.sparse_rows.proofs.rows.Rows.times.Given as goal

abbrev pub invariant-loop-i : goal.invariant-loop-i
invariant-loop-i l = l.y.items ≡ list_of l.i (product_entry l.fn.self l.fn.x)
