use Rattle.std.proofs.Common.{ℕ, List, ◌%◌, ◌+◌, ◌∙◌, length, slice_index, slice_set, refl, sym, ap, subst, arith}
use Rattle.std.proofs.lemmas.List.{length-set}
use Rattle.residue_words.specs.Matrix.{zeros}
use Rattle.sparse_rows.specs.Rows.{ResidueRow}
use Rattle.triangular_solve.proofs.SplitRows.{IsSplitting, splitting_all, splitting_behind, splitting_inside, splitting_none, splitting_outside}
use Rattle.triangular_solve.proofs.column_order.ColumnOrder.split.Goals as goal
use Rattle.triangular_solve.proofs.column_order.ColumnOrder.split.Goals.{in-Some, in-None+in_ok-push-in-None}

pub loop-k-init : goal.loop-k-init
loop-k-init c = record {
  sums = (refl, refl);
  passed = (refl, refl);
  splitting =
      let p = c.args.sums.now.modulus in
      let n = length c.args.passed.now.row in
      subst (λ (w : List ℕ). IsSplitting p c.args.self.now c.args.cols.now c.args.vals.now 0 n c.args.sums.now.row w) (sym c.requires.none)
      (subst (λ (w : List ℕ). IsSplitting p c.args.self.now c.args.cols.now c.args.vals.now 0 n w (zeros n)) (sym (ap (λ (r : ResidueRow). r.row) c.requires.clear))
      (splitting_none p n c.args.self.now c.args.cols.now c.args.vals.now c.requires.below (omega (arith, c.is_sound.ensures.two_or_more, c.requires.modulus))));
}

pub push-requires-clause-behind : goal.push-requires-clause-behind
push-requires-clause-behind c = λ j le l. splitting_behind c.requires.row c.loop-k.invariant.splitting c.loop-k-test.true j le (omega (arith, c.loop-k.invariant.passed.1))

pub loop-k-preserved : goal.loop-k-preserved
loop-k-preserved c = elim c.match-find.branch [
  | in-Some w ↦ rw w.sums-is (rw w.passed-is record {
    sums = (w.add.ensures.modulus ∙ c.loop-k.invariant.sums.0, ap length w.add.ensures.row ∙ length-set c.loop-k.sums.row w.in-Some.place _ ∙ c.loop-k.invariant.sums.1);
    passed = c.loop-k.invariant.passed;
    splitting = splitting_inside (omega (arith, c.is_sound.ensures.two_or_more, c.requires.modulus)) c.requires.distinct c.requires.row c.loop-k.invariant.splitting c.loop-k-test.true w.in-Some.place w.in-Some.ensures _
        (w.add.ensures.row ∙ ap (λ m. slice_set c.loop-k.sums.row w.in-Some.place ((slice_index c.loop-k.sums.row w.in-Some.place + slice_index c.args.vals.now c.loop-k.k) % m)) c.loop-k.invariant.sums.0);
  })
  | in-None+in_ok-push-in-None w ↦ rw w.sums-is (rw w.passed-is record {
    sums = c.loop-k.invariant.sums;
    passed = (w.push.ensures.modulus ∙ c.loop-k.invariant.passed.0, ap length w.in_ok-push-in-None.ensures.ok ∙ length-set c.loop-k.passed.row _ _ ∙ c.loop-k.invariant.passed.1);
    splitting = splitting_outside c.requires.row c.loop-k.invariant.splitting c.loop-k-test.true w.in-None.ensures _ w.in_ok-push-in-None.ensures.ok;
  })
]

pub returns-clause-split : goal.returns-clause-split
returns-clause-split c = splitting_all c.requires.row c.loop-k.invariant.splitting c.loop-k-test.false
