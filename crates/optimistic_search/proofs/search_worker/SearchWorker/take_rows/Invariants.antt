use Rattle.std.proofs.Common.{◌≡◌}
use Rattle.optimistic_search.specs.Taking.{IsIdle}
use Rattle.optimistic_search.proofs.search_worker.SearchWorker.take_rows.Given as goal

abbrev pub invariant-loop-row : goal.invariant-loop-row
invariant-loop-row g l = IsIdle l.board l.self.seat l.walk × (l.self.from ≡ l.fn.self.from)

abbrev pub invariant-loop-row-2 : goal.invariant-loop-row-2
invariant-loop-row-2 g l = IsIdle l.board l.self.seat l.walk × (l.self.from ≡ l.fn.self.from)
