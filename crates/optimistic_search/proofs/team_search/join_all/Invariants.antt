use Rattle.std.proofs.Common.{vec_len}
use Rattle.std.specs.Prelude.{All}
use Rattle.pivot_table.specs.Board.{IsSeatOf}
use Rattle.optimistic_search.specs.Workers.{IsWorkerOf}
use Rattle.optimistic_search.proofs.team_search.join_all.Given as goal

abbrev pub invariant-loop-worker : goal.invariant-loop-worker
invariant-loop-worker l = IsSeatOf l.board l.seat × All (IsWorkerOf l.board) l.workers.items

abbrev pub decreases-loop-worker : goal.decreases-loop-worker
decreases-loop-worker l = vec_len l.workers
