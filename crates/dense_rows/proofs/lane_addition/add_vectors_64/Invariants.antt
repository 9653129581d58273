use Rattle.std.proofs.Common.{◌≤◌, ◌-◌, length}
use Rattle.dense_rows.specs.Multiples.{IsAddedBelow, plus_at}
use Rattle.dense_rows.proofs.lane_addition.add_vectors_64.Given as goal

abbrev pub invariant-loop-out : goal.invariant-loop-out
invariant-loop-out l = (l.at ≤ length l.initial.out) × IsAddedBelow (plus_at l.by.p l.by.factor l.initial.out l.y) l.initial.out l.at l.out

abbrev pub decreases-loop-out : goal.decreases-loop-out
decreases-loop-out l = length l.initial.out - l.at
