use Rattle.std.proofs.Common.{◌≡◌, ◌≤◌, vec_len, vec_capacity}
use Rattle.std.specs.Prelude.{All}
use Rattle.pivot_table.specs.Board.{IsSeatOf}
use Rattle.optimistic_search.specs.Workers.{IsWorkerOf, with_parted}
use Rattle.optimistic_search.proofs.team_search.prepared.Given as goal

abbrev pub invariant-loop-number : goal.invariant-loop-number
invariant-loop-number l = record {
  seat : IsSeatOf l.board l.seat;
  chair : l.seat.chair ≡ with_parted l.fn.seat.chair l.seat.chair.parted;
  workers : All (IsWorkerOf l.board) l.workers.items;
  count : vec_len l.workers ≡ l.number;
  room : l.count ≤ vec_capacity l.workers;
}
