use Rattle.batch_solve.specs.Replies.{AreSlots}
use Rattle.batch_solve.proofs.Slots.{AreFirst}
use Rattle.batch_solve.proofs.all_replies.complete.Given as goal

abbrev pub invariant-loop-k : goal.invariant-loop-k
invariant-loop-k l = AreSlots l.prepared l.questions l.slots.items × AreFirst l.prepared l.questions l.k l.replies.items
