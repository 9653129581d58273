use Rattle.pivot_walks.proofs.Costing.{cost_is_one, cost_rises}
use Rattle.pivot_walks.proofs.cost_is_one.Goals as goal

pub returns-clause-one : goal.returns-clause-one
returns-clause-one c = cost_is_one

pub returns-clause-rises : goal.returns-clause-rises
returns-clause-rises c = cost_rises
