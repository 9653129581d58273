use Rattle.std.proofs.Common.{inl, inr, refl, subst, sym}
use Rattle.std.proofs.lemmas.Result.{IfOk-weaker}
use Rattle.pluq_factor.specs.RoundPivots.{AreSelected}
use Rattle.pluq_factor.proofs.plan.select_pivots.Goals as goal

-- what one worker finds is what any number may find
pub returns : goal.returns
returns g c =
    let found = c.in_ok-found.ensures in
    let of_one = c.in_ok-of_one.ensures in
    let one = of_one.selected in
    let by_any : AreSelected c.args.rows.now c.args.workers c.in_ok-of_one.of_one = record {
      rows = of_one.rows;
      selected = record {
        triangular = one.triangular;
        maximal = one.maximal;
        leftmost = one.leftmost;
        one_worker = λ workers. one.one_worker refl;
      };
    } in
    IfOk-weaker c.better_of.result _ _ (λ better which. elim which [
      | inl first ↦ subst (AreSelected c.args.rows.now c.args.workers) (sym first) found
      | inr second ↦ subst (AreSelected c.args.rows.now c.args.workers) (sym second) by_any
    ]) c.better_of.ensures
