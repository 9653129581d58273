use Rattle.std.proofs.Common.{◌≡◌, map, take}
use Rattle.sparse_rows.specs.Rows.{triple}
use Rattle.sparse_rows.proofs.rows.Rows.from_triples.Given as goal

abbrev pub invariant-loop-i : goal.invariant-loop-i
invariant-loop-i l = l.builder ≡ record { modulus = l.p; height = l.m; width = l.n; pushed = map triple (take l.i-index l.triples) }
