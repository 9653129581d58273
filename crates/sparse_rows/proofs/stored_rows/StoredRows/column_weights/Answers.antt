use Rattle.std.proofs.Common.{◌+◌, ◌<◌, ◌∙◌, ap, arith, length, subst, sym}
use Rattle.residue_words.specs.Matrix.{Matrix}
use Rattle.sparse_rows.specs.Rows.{transposed}
use Rattle.column_lists.specs.Parts.{count_of}
use Rattle.sparse_rows.proofs.FilledRows.{AreWeightsSoFar}
use Rattle.residue_words.proofs.Vectors.{length_list_of}
use Rattle.sparse_rows.proofs.Expanding.{column_short}
use Rattle.sparse_rows.proofs.FilledRows.{weights_all, weights_here, weights_none, weights_skip}
use Rattle.sparse_rows.proofs.Transposed.{columns_below, count_read}
use Rattle.sparse_rows.proofs.stored_rows.StoredRows.column_weights.Goals as goal
use Rattle.sparse_rows.proofs.stored_rows.StoredRows.column_weights.Goals.{then-count-ne0+in_ok-push, else-count-ne0}

pub counts-requires : goal.counts-requires
counts-requires c = rw c.deref.ensures.value (columns_below c.self.invariant)

pub index-count-requires : goal.index-count-requires
index-count-requires c = omega (arith, c.in_ok-counts.counts.ok.0, ap length c.in_ok-counts.ensures, length_list_of c.self.inside.width (λ k. count_of k c.deref.result.now), c.loop-j-test.true)

pub overflow_cast-count : goal.overflow_cast-count
overflow_cast-count c = record {
  fits = omega (
    arith,
    count_read c.loop-j.j c.index-count.result.now c.self.invariant (ap (λ m. m.matrix) c.self.view_is) c.deref.ensures.value c.in_ok-counts.ensures c.loop-j-test.true c.index-count.ensures,
    column_short c.height.ensures.sound c.loop-j.j (omega (arith, c.loop-j-test.true, ap (λ m. m.matrix.width) c.self.view_is)),
    c.height.ensures.value,
    c.height.ensures.bound,
  );
}

pub loop-j-init : goal.loop-j-init
loop-j-init c = rw c.new-weights.ensures.items (weights_none _)

pub loop-j-preserved : goal.loop-j-preserved
loop-j-preserved c =
    let T : Matrix = transposed c.args.self.now.matrix in
    let weight = count_read c.loop-j.j c.index-count.result.now c.self.invariant (ap (λ m. m.matrix) c.self.view_is) c.deref.ensures.value c.in_ok-counts.ensures c.loop-j-test.true c.index-count.ensures in
    let inside : c.loop-j.j < c.args.self.now.matrix.width = omega (arith, c.loop-j-test.true, ap (λ m. m.matrix.width) c.self.view_is) in
    elim c.if-count-ne0.branch [
      | then-count-ne0+in_ok-push w ↦ subst (AreWeightsSoFar T (c.loop-j.j + 1)) (sym (ap (λ v. v.items) w.weights-is ∙ w.in_ok-push.ensures.items))
          (weights_here T c.loop-j.j c.index-count.result.now c.loop-j.weights.items c.loop-j.invariant inside weight (omega (arith, w.if-count-ne0.true)))
      | else-count-ne0 w ↦ subst (AreWeightsSoFar T (c.loop-j.j + 1)) (sym (ap (λ v. v.items) w.weights-is))
          (weights_skip T c.loop-j.j c.loop-j.weights.items c.loop-j.invariant inside (omega (arith, weight, w.if-count-ne0.false)))
    ]

pub returns : goal.returns
returns c = weights_all _ c.loop-j.j _ c.loop-j.invariant (λ k a b. absurd (omega (arith, c.loop-j-test.false, ap (λ m. m.matrix.width) c.self.view_is)))
