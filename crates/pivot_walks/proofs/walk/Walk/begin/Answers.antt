use Rattle.std.proofs.Common.{subst, sym, arith}
use Rattle.pivot_walks.specs.Cost.{IsCost}
use Rattle.pivot_walks.specs.Walked.{Walked}
use Rattle.pivot_walks.proofs.Costing.{cost_spent}
use Rattle.pivot_walks.proofs.walk.Walk.begin.Goals as goal

pub returns-clause-cost : goal.returns-clause-cost
returns-clause-cost g c = λ n cost.
    let here : IsCost c.self.inside.pivots.rows.matrix c.self.inside.pivots.pairs c.args.row n = subst (λ (w : Walked). IsCost w.rows.matrix w.pairs c.args.row n) (sym c.self.view_is) cost in
    let walked = c.go_on-self-inside in
    omega (arith, cost_spent here walked.new.marks.list c.is_sound.ensures walked.ensures.settled.reached, c.begin_at.ensures.steps, walked.ensures.cost)
