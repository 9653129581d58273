use Rattle.std.proofs.Common.{◌≡◌}
use Rattle.std.specs.Prelude.{All}
use Rattle.batch_solve.specs.Replies.{IsIdleAt}
use Rattle.batch_solve.proofs.all_replies.team.Given as goal

abbrev pub invariant-loop-number : goal.invariant-loop-number
invariant-loop-number g l = record {
  taker : l.taker ≡ l.fn.taker;
  workers : All (IsIdleAt l.desk) l.workers.items;
}
