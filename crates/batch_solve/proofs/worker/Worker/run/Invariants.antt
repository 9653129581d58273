use Rattle.batch_solve.specs.Replies.{WorksAt}
use Rattle.batch_solve.proofs.worker.Worker.run.Given as goal

abbrev pub invariant-loop : goal.invariant-loop
invariant-loop g l = WorksAt l.desk l.prepared l.questions l.self
