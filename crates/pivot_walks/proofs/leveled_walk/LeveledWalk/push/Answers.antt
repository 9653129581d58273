use Rattle.std.proofs.Common.{◌≡◌, [], ◌∷◌, ◌++◌, subst, sym}
use Rattle.std.specs.List.{Contains}
use Rattle.std.proofs.lemmas.List.Elements.{Contains-push}
use Rattle.pivot_table.specs.History.{Alive, Grown}
use Rattle.pivot_table.proofs.Growth.{grown_push}
use Rattle.pivot_walks.specs.Indexed.{Indexed}
use Rattle.pivot_walks.specs.Levels.{AreRaised, Leveled}
use Rattle.pivot_walks.proofs.Leveling.{raised_push}
use Rattle.pivot_walks.proofs.leveled_walk.LeveledWalk.push.Goals as goal

pub raise_all-requires-clause-grown : goal.raise_all-requires-clause-grown
raise_all-requires-clause-grown c =
    let old = c.self.inside.pivots in
    let q = c.args.pair in
    let same : c.push.new.self ≡ record { rows = old.rows; pairs = old.pairs ++ q ∷ [] } = λ i. record { rows = c.push.ensures.rows i; pairs = c.push.ensures.pairs i } in
    subst (λ (w : Indexed). Grown w.rows.matrix w.pairs) (sym same)
    (grown_push old.rows.matrix old.pairs q
    (subst (λ (w : Leveled). Grown w.rows.matrix w.pairs) (sym c.self.view_is) c.requires.grown)
    (subst (λ (w : Leveled). Alive w.rows.matrix w.pairs q.row q.col) (sym c.self.view_is) c.requires.alive))

pub raise_all-requires-clause-levels : goal.raise_all-requires-clause-levels
raise_all-requires-clause-levels c =
    let old = c.self.inside.pivots in
    let q = c.args.pair in
    let same : c.push.new.self ≡ record { rows = old.rows; pairs = old.pairs ++ q ∷ [] } = λ i. record { rows = c.push.ensures.rows i; pairs = c.push.ensures.pairs i } in
    subst (λ (w : Indexed). AreRaised w.rows.matrix w.pairs c.self.inside.levels c.mark.new.self.list) (sym same)
    (raised_push q (c.self.invariant.1 (c.is_spent.ensures.no c.if-is_spent.false)).1 (subst (λ l. Contains l q.col) (sym c.mark.ensures.list) (Contains-push c.self.inside.marks.list q.col)))
