use Rattle.std.proofs.Common.{◌∙◌, length, slice_index, refl, ap, subst, arith}
use Rattle.std.specs.List.{Contains}
use Rattle.std.proofs.lemmas.List.{length-set}
use Rattle.sparse_rows.specs.Rows.{ResidueRow}
use Rattle.triangular_solve.specs.AscendingColumns.{IsPlaceOf}
use Rattle.triangular_solve.proofs.Flattening.{takes_alike}
use Rattle.triangular_solve.proofs.TakenRows.{taking_all, taking_behind, taking_inside, taking_none, taking_outside}
use Rattle.triangular_solve.proofs.flat_rows.FlatRows.take_row.Goals as goal
use Rattle.triangular_solve.proofs.flat_rows.FlatRows.take_row.Goals.{in-Some, in-None+in_ok-push-in-None}

pub loop-k-init : goal.loop-k-init
loop-k-init c = record {
  sums = (refl, refl);
  passed = (refl, refl);
  taking = taking_none (length c.args.passed.now.row) c.args.row.cols.now c.args.row.vals.now (omega (arith, c.is_sound.ensures.two_or_more, c.requires.room.modulus)) c.order-order.ensures.placed c.requires.below
      (ap (λ (r : ResidueRow). r.row) c.requires.room.clear) c.requires.room.zero;
}

pub push-requires-clause-behind : goal.push-requires-clause-behind
push-requires-clause-behind c = λ j le l. taking_behind c.requires.row c.loop-k.invariant.taking c.loop-k-test.true j le (omega (arith, c.loop-k.invariant.passed.1))

pub loop-k-preserved : goal.loop-k-preserved
loop-k-preserved c = elim c.match-find.branch [
  | in-Some w ↦
      let same = c.loop-k.invariant.sums.0 ∙ ap (λ (r : ResidueRow). r.modulus) c.requires.room.clear in
      rw w.sums-is (rw w.passed-is record {
        sums = ((takes_alike w.take_in.ensures).0 ∙ c.loop-k.invariant.sums.0, (takes_alike w.take_in.ensures).1 ∙ c.loop-k.invariant.sums.1);
        passed = c.loop-k.invariant.passed;
        taking = taking_inside (omega (arith, c.is_sound.ensures.two_or_more, c.requires.room.modulus)) c.order-order.ensures.placed c.requires.flat c.is_sound-2.ensures same c.requires.row c.loop-k.invariant.taking c.loop-k-test.true w.in-Some.place (subst (λ xs. IsPlaceOf xs (slice_index c.args.row.cols.now c.loop-k.k) w.in-Some.place) c.order-order.ensures.columns w.in-Some.ensures) w.take_in.ensures;
      })
  | in-None+in_ok-push-in-None w ↦ rw w.sums-is (rw w.passed-is record {
    sums = c.loop-k.invariant.sums;
    passed = (w.push.ensures.modulus ∙ c.loop-k.invariant.passed.0, ap length w.in_ok-push-in-None.ensures.ok ∙ length-set c.loop-k.passed.row _ _ ∙ c.loop-k.invariant.passed.1);
    taking = taking_outside c.requires.row c.loop-k.invariant.taking c.loop-k-test.true (subst (λ xs. ¬ Contains xs (slice_index c.args.row.cols.now c.loop-k.k)) c.order-order.ensures.columns w.in-None.ensures) w.in_ok-push-in-None.ensures.ok;
  })
]

pub returns-clause-taken : goal.returns-clause-taken
returns-clause-taken c = taking_all c.requires.row c.loop-k.invariant.taking c.loop-k-test.false
