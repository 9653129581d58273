use Rattle.dense_rows.specs.Multiples.{IsAddedBelow, plus_at}
use Rattle.dense_rows.proofs.lane_addition.add_singly_32.Given as goal

abbrev pub invariant-loop-k : goal.invariant-loop-k
invariant-loop-k l = IsAddedBelow (plus_at l.by.p l.by.factor l.initial.out l.y) l.initial.out l.k l.out
