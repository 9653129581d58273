use Rattle.std.proofs.Common.{◌≡◌, ◌++◌, ◌∷◌, [], List, subst, sym}
use Rattle.residue_words.specs.declared.plain.Pair.{Pair}
use Rattle.pivot_walks.specs.Cost.{IsCost}
use Rattle.pivot_walks.specs.Walked.{Walked}
use Rattle.pivot_walks.proofs.Walking.{some_one}
use Rattle.pivot_walks.proofs.walk.Walk.extend.Goals as goal

pub returns-else-pair-row-clause-carried : goal.returns-else-pair-row-clause-carried
returns-else-pair-row-clause-carried g c = λ r m n e a b.
    let w = c.self.inside in
    let row : r ≡ c.in-Some.row = some_one r c.in-Some.row e c.in-Some.is in
    let old : IsCost w.pivots.rows.matrix w.pivots.pairs c.in-Some.row m =
    subst (λ x. IsCost w.pivots.rows.matrix w.pivots.pairs x m) row (subst (λ (v : Walked). IsCost v.rows.matrix v.pairs r m) (sym c.self.view_is) a) in
    let new : IsCost w.pivots.rows.matrix (w.pivots.pairs ++ c.args.pair ∷ []) c.in-Some.row n =
    subst (λ x. IsCost w.pivots.rows.matrix (w.pivots.pairs ++ c.args.pair ∷ []) x n) row
    (subst (λ (h : List Pair). IsCost w.pivots.rows.matrix h r n) c.carry_on-self-inside.ensures.pairs
    (subst (λ (v : Walked). IsCost v.rows.matrix c.carry_on-self-inside.new.pivots.pairs r n) (sym c.self.view_is) b)) in
    c.carry_on-self-inside.ensures.cost m n old new
