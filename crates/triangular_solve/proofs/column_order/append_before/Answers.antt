use Rattle.std.proofs.Common.{ℕ, List, ◌≡◌, ◌<◌, ◌∙◌, length, slice_index, slice_set, ap, subst, sym, arith}
use Rattle.std.proofs.lemmas.List.{length-set}
use Rattle.sparse_rows.specs.Rows.{AreBelow, AreRising, support}
use Rattle.triangular_solve.proofs.JoinedRows.{appending_all, appending_behind, appending_more, support_value}
use Rattle.triangular_solve.proofs.column_order.append_before.Goals as goal

pub push-requires-clause-behind : goal.push-requires-clause-behind
push-requires-clause-behind c = λ j le l.
    appending_behind (subst AreRising c.cols-cols.ensures.support c.cols-cols.ensures.ascending) c.loop-at.invariant.1 (omega (arith, c.loop-at-test.true, ap length c.cols-cols.ensures.support)) c.requires.behind j
    (omega (arith, ap (λ cs. slice_index cs c.loop-at.at) c.cols-cols.ensures.support))

pub loop-at-preserved : goal.loop-at-preserved
loop-at-preserved c =
    let w : List ℕ = c.args.row.now.row in
    let at : ℕ = c.loop-at.at in
    let rising : AreRising (support w) = subst AreRising c.cols-cols.ensures.support c.cols-cols.ensures.ascending in
    let l : at < length (support w) = omega (arith, c.loop-at-test.true, ap length c.cols-cols.ensures.support) in (
      (c.push.ensures.modulus ∙ c.loop-at.invariant.0.0, ap length c.in_ok-push.ensures.ok ∙ length-set c.loop-at.to.row _ _ ∙ c.loop-at.invariant.0.1),
      appending_more rising (subst (λ n. AreBelow n (support w)) (sym c.requires.alike.1) (subst (AreBelow (length w)) c.cols-cols.ensures.support c.cols-cols.ensures.below_width))
          c.loop-at.invariant.1 l (omega (arith, c.if-cols-at.true, ap (λ cs. slice_index cs at) c.cols-cols.ensures.support))
          (slice_index c.vals-vals.result.now at) (ap (λ vs. slice_index vs at) c.vals-vals.ensures.values ∙ support_value w rising (sym (ap length c.cols-cols.ensures.support) ∙ c.cols-cols.ensures.same_length) at l)
          c.push.new.self.row (subst (λ cs. c.push.new.self.row ≡ slice_set c.loop-at.to.row (slice_index cs at) (slice_index c.vals-vals.result.now at)) c.cols-cols.ensures.support c.in_ok-push.ensures.ok),
    )

pub returns-else-cols-at-clause-appended : goal.returns-else-cols-at-clause-appended
returns-else-cols-at-clause-appended c =
    appending_all (subst AreRising c.cols-cols.ensures.support c.cols-cols.ensures.ascending) c.loop-at.invariant.1
    (λ l. omega (arith, c.if-cols-at.false, ap (λ cs. slice_index cs c.loop-at.at) c.cols-cols.ensures.support))

pub returns-after-loop-at-clause-appended : goal.returns-after-loop-at-clause-appended
returns-after-loop-at-clause-appended c =
    appending_all (subst AreRising c.cols-cols.ensures.support c.cols-cols.ensures.ascending) c.loop-at.invariant.1
    (λ l. absurd (omega (arith, c.loop-at-test.false, ap length c.cols-cols.ensures.support)))
