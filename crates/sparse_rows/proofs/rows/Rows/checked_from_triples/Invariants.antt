use Rattle.std.proofs.Common.{take}
use Rattle.std.specs.Prelude.{All}
use Rattle.sparse_rows.specs.Rows.{FitsMatrix}
use Rattle.sparse_rows.proofs.rows.Rows.checked_from_triples.Given as goal

abbrev pub invariant-loop-i : goal.invariant-loop-i
invariant-loop-i l = All (FitsMatrix l.m l.n l.p) (take l.i-index l.triples)
