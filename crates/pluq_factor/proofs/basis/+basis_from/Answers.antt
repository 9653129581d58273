use Rattle.std.proofs.Common.{◌<◌, ◌∙◌, ap, arith, subst, sym}
use Rattle.std.proofs.lemmas.Result.{IfOk-weaker}
use Rattle.sparse_rows.specs.Rows.{AreEnoughInSomeOrder, ResidueMatrix, narrowed}
use Rattle.pluq_factor.specs.Basis.{IsBasis}
use Rattle.pluq_factor.specs.Reordered.{IsOutcome}
use Rattle.pluq_factor.proofs.Bases.{basis_joined, below_made, below_stored}
use Rattle.pluq_factor.proofs.Reordering.{back_enough, basis_back}
use Rattle.pluq_factor.proofs.basis.+basis_from.Goals as goal

pub columns_in_order-requires-clause-columns : goal.columns_in_order-requires-clause-columns
columns_in_order-requires-clause-columns g t c =
    let other = (subst (IsOutcome c.args.matrix.rows c.args.bounds) c.in-GivenUp.is c.in_ok-take_basis_round.ensures).1 in
    subst (AreEnoughInSomeOrder c.in_ok-basis-in-GivenUp.basis.matrix) (sym c.deref.ensures.value)
    (back_enough other c.is_sound-in-GivenUp.ensures.entries c.in_ok-basis-in-GivenUp.ensures)

pub returns-in_ok-whole-in-GivenUp : goal.returns-in_ok-whole-in-GivenUp
returns-in_ok-whole-in-GivenUp g t c =
    let other = (subst (IsOutcome c.args.matrix.rows c.args.bounds) c.in-GivenUp.is c.in_ok-take_basis_round.ensures).1 in
    basis_back other c.is_sound-in-GivenUp.ensures.entries c.in_ok-basis-in-GivenUp.ensures c.in_ok-whole-in-GivenUp.ensures.modulus
    (c.in_ok-whole-in-GivenUp.ensures.matrix ∙ ap (narrowed c.in_ok-basis-in-GivenUp.basis.matrix) c.deref.ensures.value)

pub returns-in-Basis : goal.returns-in-Basis
returns-in-Basis g t c =
    let round = (subst (IsOutcome c.args.matrix.rows c.args.bounds) c.in-Taken.is c.in_ok-take_basis_round.ensures).1 in
    IfOk-weaker c.with_below.result _ _
    (λ W whole. basis_joined round (below_made round c.in-Basis.is) (omega (arith, c.is_sound.ensures.height)) whole.modulus whole.width whole.stacked) c.with_below.ensures

pub returns-in_ok-below-in-Stored : goal.returns-in_ok-below-in-Stored
returns-in_ok-below-in-Stored g t c =
    let round = (subst (IsOutcome c.args.matrix.rows c.args.bounds) c.in-Taken.is c.in_ok-take_basis_round.ensures).1 in
    let basis = subst (λ (R : ResidueMatrix). IsBasis R.modulus R.matrix c.in_ok-below-in-Stored.below) c.in_ok-rest-in-Stored.ensures c.in_ok-below-in-Stored.ensures in
    IfOk-weaker c.with_below-in-Stored.result _ _
    (λ W whole. basis_joined round (below_stored round c.in-Stored.is c.is_sound-in-Stored.ensures.entries basis) (omega (arith, c.is_sound.ensures.height)) whole.modulus whole.width whole.stacked) c.with_below-in-Stored.ensures
