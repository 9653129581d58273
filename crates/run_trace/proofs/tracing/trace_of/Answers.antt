-- What was found, listed.
use Rattle.std.proofs.Common.{◌≡◌, ◌∙◌, subst, arith}
use Rattle.sparse_rows.specs.Rows.{ResidueMatrix}
use Rattle.pivot_table.specs.Greedy.{IsGreedy}
use Rattle.pivot_table.specs.History.{Grown, Maximal}
use Rattle.optimistic_search.specs.Versions.{TellsStarts}
use Rattle.run_trace.specs.Lawful.{IsTraceOf}
use Rattle.run_trace.proofs.FoundTraces.{lawful_text, traced}
use Rattle.run_trace.proofs.tracing.trace_of.Goals as goal

pub returns-clause-is : goal.returns-clause-is
returns-clause-is g c =
    let first = c.in_ok-first.first in
    let all = c.in_ok-found.found.book.pairs in
    let same : first.rows ≡ c.args.rows.now = c.in_ok-first.ensures.rows in
    let found = c.in_ok-found.ensures in
    traced c.args.rows.now.modulus c.args.rows.now.matrix c.args.workers (record { p = c.p.result; publications = c.in_ok-publications.publications }) first.pairs all c.in_ok-found.found.versions.items
    (c.p.ensures.value ∙ c.modulus.ensures.value)
    (c.in_ok-publications.ensures.history ∙ c.pairs.ensures.pairs)
    (c.in_ok-publications.ensures.versions ∙ c.as_slice.ensures.value)
    (subst (λ (m : ResidueMatrix). Grown m.matrix all) (found.rows ∙ same) c.pairs.ensures.grown)
    (subst (λ (m : ResidueMatrix). Maximal m.matrix all) same found.maximal)
    c.in_ok-first.ensures.pairs
    found.begins
    (subst (λ (m : ResidueMatrix). TellsStarts m.matrix first.pairs all c.in_ok-found.found.versions.items) same found.versions)
    (λ one. subst (λ (m : ResidueMatrix). IsGreedy m.matrix first.pairs all) same (found.greedy one))
    (λ one. found.alone one)

pub returns-clause-fits : goal.returns-clause-fits
returns-clause-fits g c =
    let first = c.in_ok-first.first in
    let all = c.in_ok-found.found.book.pairs in
    let same : first.rows ≡ c.args.rows.now = c.in_ok-first.ensures.rows in
    let found = c.in_ok-found.ensures in
    let is : IsTraceOf c.args.rows.now.modulus c.args.rows.now.matrix c.args.workers (record { p = c.p.result; publications = c.in_ok-publications.publications }) =
    traced c.args.rows.now.modulus c.args.rows.now.matrix c.args.workers (record { p = c.p.result; publications = c.in_ok-publications.publications }) first.pairs all c.in_ok-found.found.versions.items
    (c.p.ensures.value ∙ c.modulus.ensures.value)
    (c.in_ok-publications.ensures.history ∙ c.pairs.ensures.pairs)
    (c.in_ok-publications.ensures.versions ∙ c.as_slice.ensures.value)
    (subst (λ (m : ResidueMatrix). Grown m.matrix all) (found.rows ∙ same) c.pairs.ensures.grown)
    (subst (λ (m : ResidueMatrix). Maximal m.matrix all) same found.maximal)
    c.in_ok-first.ensures.pairs
    found.begins
    (subst (λ (m : ResidueMatrix). TellsStarts m.matrix first.pairs all c.in_ok-found.found.versions.items) same found.versions)
    (λ one. subst (λ (m : ResidueMatrix). IsGreedy m.matrix first.pairs all) same (found.greedy one))
    (λ one. found.alone one) in
    λ fits. lawful_text c.args.rows.now.modulus c.args.rows.now.matrix _ (omega (arith, c.modulus.ensures.in_range, c.modulus.ensures.value)) fits is.lawful
