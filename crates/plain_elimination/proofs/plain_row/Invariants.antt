-- The entries before k were set.
use Rattle.std.proofs.Common.{◌≡◌, take}
use Rattle.sparse_rows.specs.Stored.{spread}
use Rattle.plain_elimination.proofs.plain_row.Given as goal

abbrev pub invariant-loop-k : goal.invariant-loop-k
invariant-loop-k l = l.plain.items ≡ spread l.rows.matrix.width (take l.k l.cols) (take l.k l.vals)
