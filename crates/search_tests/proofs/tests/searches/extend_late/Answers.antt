use Rattle.std.proofs.Common.{ap, ◌∙◌}
use Rattle.pivot_table.specs.History.{pair}
use Rattle.pivot_walks.specs.Walked.{Walked, open_after}
use Rattle.pivot_walks.proofs.Example.{carried_steps}
use Rattle.search_tests.proofs.tests.searches.extend_late.Goals as goal

pub returns-clause-open : goal.returns-clause-open
returns-clause-open g c = ap (λ (w : Walked). w.current) c.extend.ensures.walk ∙ ap (open_after (pair 2 1)) c.requires.open

pub returns-clause-steps : goal.returns-clause-steps
returns-clause-steps g c = carried_steps c.args.walk.now c.extend.new.self c.args.steps.now c.extend.new.steps c.requires.matrix c.requires.pairs c.requires.open c.extend.ensures.walk c.extend.ensures.carried
