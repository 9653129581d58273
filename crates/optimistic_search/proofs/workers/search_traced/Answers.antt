use Rattle.std.proofs.Common.{ap, length, subst}
use Rattle.sparse_rows.specs.Rows.{ResidueMatrix}
use Rattle.pivot_table.specs.History.{Grown}
use Rattle.optimistic_search.specs.Versions.{AreOwnPlaces, AreStarted}
use Rattle.optimistic_search.proofs.Starting.{tells_places, tells_started}
use Rattle.optimistic_search.proofs.workers.search_traced.Goals as goal

pub returns-clause-versions : goal.returns-clause-versions
returns-clause-versions g c =
    let all = c.in_ok-found-2.found.pairs in
    tells_started c.args.book.rows.matrix c.args.book.pairs all c.in_ok-found-2.starts c.in_ok-versions-2.versions.items
    c.in_ok-found-2.ensures.starts
    (subst (λ n. AreStarted c.in_ok-found-2.starts n c.in_ok-versions-2.versions.items) (ap length c.pairs-2.ensures.pairs) c.in_ok-versions-2.ensures)

pub returns-then-workers-eq1-clause-versions : goal.returns-then-workers-eq1-clause-versions
returns-then-workers-eq1-clause-versions g c =
    let all = c.in_ok-found.found.pairs in
    tells_places c.args.book.rows.matrix c.args.book.pairs all c.in_ok-versions.versions.items
    (subst (λ (m : ResidueMatrix). Grown m.matrix all) c.in_ok-found.ensures.rows c.pairs.ensures.grown)
    c.in_ok-found.ensures.begins
    (subst (λ n. AreOwnPlaces n c.in_ok-versions.versions.items) (ap length c.pairs.ensures.pairs) c.in_ok-versions.ensures)
