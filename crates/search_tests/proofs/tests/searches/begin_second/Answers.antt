use Rattle.pivot_walks.proofs.Example.{begun_steps}
use Rattle.search_tests.proofs.tests.searches.begin_second.Goals as goal

pub returns-clause-steps : goal.returns-clause-steps
returns-clause-steps g c = begun_steps c.args.walk.now c.args.steps.now c.begin.new.steps c.requires.matrix c.requires.pairs c.begin.ensures.cost
