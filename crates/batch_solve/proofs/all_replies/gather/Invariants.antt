use Rattle.std.proofs.Common.{vec_len}
use Rattle.std.specs.Prelude.{All}
use Rattle.batch_solve.specs.Replies.{AreSlots, WorksAt}
use Rattle.batch_solve.proofs.all_replies.gather.Given as goal

abbrev pub invariant-loop-worker : goal.invariant-loop-worker
invariant-loop-worker l = AreSlots l.prepared l.questions l.slots × All (WorksAt l.desk l.prepared l.questions) l.workers.items

abbrev pub decreases-loop-worker : goal.decreases-loop-worker
decreases-loop-worker l = vec_len l.workers
