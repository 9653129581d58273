use Rattle.std.proofs.Common.{◌≡◌, ◌⊎◌, slice_index, subst, arith, inl, inr}
use Rattle.std.specs.List.{Contains}
use Rattle.std.proofs.lemmas.Bool.{cases_lt}
use Rattle.pivot_table.specs.History.{HasCol}
use Rattle.pivot_walks.proofs.leveled_walk.pass_over.Goals as goal

pub loop-at-preserved : goal.loop-at-preserved
loop-at-preserved c =
    let inv = c.loop-at.invariant in (
      omega (arith, inv.0),
      omega (arith, c.loop-at-test.true),
      (λ k low l. elim (cases_lt k c.loop-at.at) [
        | inl lt ↦ inv.2 k low lt
        | inr ge ↦
            let e : c.loop-at.at ≡ k = omega arith in
            subst (λ x. Contains c.args.marks.now.list (slice_index c.args.cols.now x) ⊎ HasCol c.args.pivots.now.pairs (slice_index c.args.cols.now x)) e (c.is_left.ensures.no c.if-is_left.false)
      ]),
    )
