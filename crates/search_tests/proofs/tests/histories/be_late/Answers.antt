use Rattle.std.proofs.Common.{◌≡◌, ◌∙◌, ◌&&◌, Bool, true, false, eqb, ℕ, [], ◌∷◌, ap, inr, refl, subst, sym}
use Rattle.std.proofs.lemmas.Bool.{eqb-true}
use Rattle.residue_words.specs.Matrix.{Matrix}
use Rattle.residue_words.specs.declared.plain.Pair.{Pair}
use Rattle.pivot_table.specs.History.{pair}
use Rattle.pivot_table.specs.Calls.{MayFinish, MayPublish}
use Rattle.pivot_table.specs.Core.{Chair, claiming, opened, parting, seeing}
use Rattle.pivot_table.specs.Example.{pivot_example}
use Rattle.search_tests.proofs.tests.histories.be_late.Goals as goal

pub publish-requires-clause-alive : goal.publish-requires-clause-alive
publish-requires-clause-alive c =
    subst (λ (A : Matrix). MayPublish A c.args.first.now.chair 1) (sym c.requires.matrix)
    (subst (λ (s : Chair). MayPublish pivot_example s 1) (sym c.requires.claimed) (1, refl, c.histories_are_worked.ensures.least))

both : (a b : Bool) → (a && b) ≡ true → (a ≡ true) × (b ≡ true)
both true b e = (refl, e)
both false b e = absurd (cc)

pair_is : (q : Pair) (r k : ℕ) → (eqb q.row r && eqb q.col k) ≡ true → q ≡ pair r k
pair_is q r k e = let t = both (eqb q.row r) (eqb q.col k) e in
    let er : q.row ≡ r = eqb-true q.row r t.0 in let ek : q.col ≡ k = eqb-true q.col k t.1 in
    λ i. record { row = er i; col = ek i }

pub returns-in-Newer-clause-settled : goal.returns-in-Newer-clause-settled
returns-in-Newer-clause-settled c = λ t.
    let q : c.in-Newer.pair ≡ pair 2 1 = pair_is c.in-Newer.pair 2 1 (sym c.eq.ensures ∙ t) in
    let is : c.publish.new.seat.chair ≡ seeing (claiming (parting (opened (pair 0 0 ∷ []))) 1) (pair 2 1) =
    c.in-Newer.ensures.chair.2 ∙ ap (λ (s : Chair). seeing s c.in-Newer.pair) c.requires.claimed
    ∙ ap (λ (p : Pair). seeing (claiming (parting (opened (pair 0 0 ∷ []))) 1) p) q in
    subst (λ (s : Chair). MayFinish pivot_example s) (sym is) (1, refl, inr c.histories_are_worked.ensures.overtaken)
