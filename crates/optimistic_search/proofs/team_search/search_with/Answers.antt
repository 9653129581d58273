use Rattle.optimistic_search.specs.Workers.{IsWorkerOf}
use Rattle.optimistic_search.proofs.Working.{all_back}
use Rattle.optimistic_search.proofs.team_search.search_with.Goals as goal

pub join_all-taken-requires-clause-workers : goal.join_all-taken-requires-clause-workers
join_all-taken-requires-clause-workers g c = all_back (IsWorkerOf c.in_ok-board.field-0.board) c.in_ok-board.field-0.workers.len _ c.run_all.new.workers c.in_ok-board.field-0.workers.items c.run_all.ensures c.in_ok-board.ensures.workers
