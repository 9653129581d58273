use Rattle.std.proofs.Common.{slice_index}
use Rattle.dense_rows.specs.Dense.{IsCleared}
use Rattle.dense_rows.proofs.dense.Dense.clear.Given as goal

abbrev pub invariant-loop-k : goal.invariant-loop-k
invariant-loop-k g l = IsCleared l.p l.k (slice_index l.columns) l.fn.self l.self
