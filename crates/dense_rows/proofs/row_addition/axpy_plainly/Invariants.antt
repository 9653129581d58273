use Rattle.dense_rows.specs.Multiples.{IsAddedBelow, plus_at}
use Rattle.dense_rows.proofs.row_addition.axpy_plainly.Given as goal

abbrev pub invariant-loop-k : goal.invariant-loop-k
invariant-loop-k l = IsAddedBelow (plus_at l.p l.a l.initial.out l.y) l.initial.out l.k l.out
