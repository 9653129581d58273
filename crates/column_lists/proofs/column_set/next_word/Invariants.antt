use Rattle.std.proofs.Common.{◌+◌, ◌*◌, ◌-◌, length, slice_index}
use Rattle.column_lists.proofs.Marking.{IsSeeking}
use Rattle.column_lists.proofs.column_set.next_word.Given as goal

abbrev pub invariant-loop-t : goal.invariant-loop-t
invariant-loop-t l = IsSeeking l.words l.tops l.t

abbrev pub decreases-loop-t : goal.decreases-loop-t
decreases-loop-t l = (length l.tops - l.t) * 18446744073709551616 + slice_index l.tops l.t
