use Rattle.sparse_rows.specs.Rows.{AreRising}
use Rattle.std.proofs.Common.{ℕ, List, ◌≡◌, ◌<◌, ◌++◌, ◌∷◌, [], ◌∙◌, drop, get_or, inl, inr, length, slice_index, subst, sym, take, ap, arith}
use Rattle.std.specs.List.{Contains}
use Rattle.std.proofs.lemmas.Bool.{cases_eq}
use Rattle.std.proofs.lemmas.List.{length-map, length-take-le, take_at, take_more, take_all}
use Rattle.std.proofs.lemmas.List.Elements.{Contains-get_or}
use Rattle.residue_words.specs.Matrix.{entry}
use Rattle.residue_words.specs.declared.plain.Pair.{Pair}
use Rattle.row_space.specs.Factors.{col_at}
use Rattle.sparse_rows.proofs.Supports.{in_support, of_support}
use Rattle.triangular_solve.specs.Listing.{column_count}
use Rattle.triangular_solve.proofs.Counting.{count_few, count_push, flag_one, flag_zero}
use Rattle.triangular_solve.proofs.Listing.{no_pair}
use Rattle.triangular_solve.proofs.triangle.count_waits.Goals as goal

pub cols-requires : goal.cols-requires
cols-requires c = (c.requires.pivots.nonzero _ (Contains-get_or c.args.pairs.now c.loop-pair.pair-index no_pair c.loop-pair-test.true)).0

pub raise-requires-clause-small : goal.raise-requires-clause-small
raise-requires-clause-small c = λ k l.
    let pairs = c.args.pairs.now in
    let i = c.loop-pair.pair-index in
    let at : slice_index c.deref_mut.result.now k ≡ slice_index c.loop-pair.waits.items k = ap (λ (xs : List ℕ). slice_index xs k) c.deref_mut.ensures.value in
    let lk : k < length pairs = omega (arith, ap length c.deref_mut.ensures.value, c.loop-pair.invariant.many) in
    omega (
      arith,
      count_few c.args.rows.now.matrix (take i pairs) (col_at pairs k),
      c.loop-pair.invariant.counts k lk,
      length-take-le i pairs (omega (arith, c.loop-pair-test.true)),
      c.loop-pair-test.true,
      c.requires.few,
    )

pub loop-pair-preserved : goal.loop-pair-preserved
loop-pair-preserved c =
    let A = c.args.rows.now.matrix in
    let pairs = c.args.pairs.now in
    let columns = c.args.columns.now in
    let i = c.loop-pair.pair-index in
    let q = get_or pairs i no_pair in
    let inside = (c.requires.pivots.nonzero q (Contains-get_or pairs i no_pair c.loop-pair-test.true)).0 in
    let new = c.raise.new.waits in
    let back : take c.loop-pair.waits.len (new ++ drop (length new) c.loop-pair.waits.items) ≡ new =
    take_at new (drop (length new) c.loop-pair.waits.items) c.loop-pair.waits.len (c.raise.auto.waits ∙ c.deref_mut.ensures.len) in
    let many : length columns ≡ length pairs = ap length c.requires.columns ∙ length-map pairs (λ (p : Pair). p.col) in
    record {
      many = ap length back ∙ c.raise.auto.waits ∙ ap length c.deref_mut.ensures.value ∙ c.loop-pair.invariant.many;
      counts = λ k l.
          let d = col_at pairs k in
          let col : slice_index columns k ≡ d = ap (λ (xs : List ℕ). slice_index xs k) c.requires.columns in
          let old : slice_index c.deref_mut.result.now k ≡ column_count A (take i pairs) d = ap (λ (xs : List ℕ). slice_index xs k) c.deref_mut.ensures.value ∙ c.loop-pair.invariant.counts k l in
          let next : slice_index new k ≡ column_count A (take i pairs ++ q ∷ []) d = elim (cases_eq (entry A q.row (slice_index columns k)) 0) [
            | inl z ↦ c.raise.ensures.kept k (omega arith) (λ m. of_support c.is_sound.ensures.entries q.row inside (slice_index columns k) (subst (λ (xs : List ℕ). Contains xs (slice_index columns k)) c.cols.ensures.support m) z)
                ∙ omega (arith, old, count_push A (take i pairs) q d, flag_zero A q.row d (ap (entry A q.row) (sym col) ∙ z))
            | inr n ↦ c.raise.ensures.raised k (omega arith) (subst (λ (xs : List ℕ). Contains xs (slice_index columns k)) (sym c.cols.ensures.support) (in_support c.is_sound.ensures.entries q.row inside (slice_index columns k) n))
                ∙ omega (arith, old, count_push A (take i pairs) q d, flag_one A q.row d (λ z. n (ap (entry A q.row) col ∙ z)))
          ] in
          ap (λ (xs : List ℕ). slice_index xs k) back ∙ next ∙ ap (λ (l : List Pair). column_count A l d) (sym (take_more pairs i no_pair c.loop-pair-test.true));
    }

pub raise-requires-clause-many : goal.raise-requires-clause-many
raise-requires-clause-many c = ap length c.deref_mut.ensures.value ∙ c.loop-pair.invariant.many ∙ sym (ap length c.requires.columns ∙ length-map c.args.pairs.now (λ (p : Pair). p.col))

pub raise-requires-clause-pivotal : goal.raise-requires-clause-pivotal
raise-requires-clause-pivotal c = subst AreRising (sym c.requires.columns) c.requires.pivots.rising

pub raise-requires-clause-rising : goal.raise-requires-clause-rising
raise-requires-clause-rising c = c.cols.ensures.ascending

pub returns : goal.returns
returns c = record {
  many = c.loop-pair.invariant.many;
  counts = λ k l. c.loop-pair.invariant.counts k l ∙ ap (λ (ps : List Pair). column_count c.args.rows.now.matrix ps (col_at c.args.pairs.now k)) (take_all c.loop-pair.pair-index c.args.pairs.now c.loop-pair-test.false);
}
