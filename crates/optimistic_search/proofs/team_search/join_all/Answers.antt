use Rattle.std.proofs.Common.{List, ◌-◌, vec_len, subst, sym}
use Rattle.std.specs.Prelude.{All}
use Rattle.std.proofs.lemmas.List.Elements.{All-take}
use Rattle.optimistic_search.specs.Workers.{IsWorkerOf}
use Rattle.optimistic_search.specs.declared.search_worker.SearchWorker.{SearchWorker}
use Rattle.optimistic_search.proofs.team_search.join_all.Goals as goal

pub loop-worker-preserved-in-Some : goal.loop-worker-preserved-in-Some
loop-worker-preserved-in-Some c =
    let P = IsWorkerOf c.args.board.now in
    let old : List SearchWorker = c.loop-worker.workers.items in (
      c.join.ensures.seat,
      subst (λ (l : List SearchWorker). All P l) (sym c.in-Some.ensures.rest) (All-take P (vec_len c.loop-worker.workers - 1) old c.loop-worker.invariant.1),
    )
