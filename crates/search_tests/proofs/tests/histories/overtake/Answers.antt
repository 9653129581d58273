use Rattle.std.proofs.Common.{◌≡◌, ◌∙◌, [], ◌∷◌, ap, refl, subst, sym}
use Rattle.residue_words.specs.Matrix.{Matrix}
use Rattle.pivot_table.specs.History.{pair}
use Rattle.pivot_table.specs.Calls.{MayPublish}
use Rattle.pivot_table.specs.Core.{Chair, claiming, meeting, opened, splitting}
use Rattle.pivot_table.specs.Example.{pivot_example}
use Rattle.search_tests.proofs.tests.histories.overtake.Goals as goal

pub publish-requires-clause-alive : goal.publish-requires-clause-alive
publish-requires-clause-alive c =
    let met : c.claim.new.seat.chair ≡ meeting c.args.second.now.chair 1 = c.if-claim.ensures.chair in
    let is : c.claim-else-claim.new.seat.chair ≡ claiming (meeting (splitting (opened (pair 0 0 ∷ []))) 1) 2 =
    c.if-not-claim.ensures.chair.0 ∙ ap (λ (s : Chair). claiming s 2) (met ∙ ap (λ (s : Chair). meeting s 1) c.requires.split) in
    subst (λ (A : Matrix). MayPublish A c.claim-else-claim.new.seat.chair 1) (sym c.requires.matrix)
    (subst (λ (s : Chair). MayPublish pivot_example s 1) (sym is) (2, refl, c.histories_are_worked.ensures.other_least))
