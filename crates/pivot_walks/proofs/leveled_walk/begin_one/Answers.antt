use Rattle.std.proofs.Common.{refl}
use Rattle.pivot_table.specs.History.{pair}
use Rattle.pivot_walks.proofs.Growing.{grows_weaker}
use Rattle.pivot_walks.proofs.leveled_walk.begin_one.Goals as goal

pub returns-in-Some-clause-grows : goal.returns-in-Some-clause-grows
returns-in-Some-clause-grows c = grows_weaker c.add_low.ensures.grows (λ i e. (e, (pair c.in-Some._row c.args.j, c.in-Some.ensures.0, refl)))
