use Rattle.std.proofs.Common.{vec_len}
use Rattle.std.specs.Prelude.{All}
use Rattle.batch_solve.specs.Replies.{AreSlots, IsAnsweredAt}
use Rattle.batch_solve.proofs.all_replies.fill_slots.Given as goal

abbrev pub invariant-loop-one : goal.invariant-loop-one
invariant-loop-one l = AreSlots l.prepared l.questions l.slots × All (IsAnsweredAt l.prepared l.questions) l.answered.items

abbrev pub decreases-loop-one : goal.decreases-loop-one
decreases-loop-one l = vec_len l.answered
