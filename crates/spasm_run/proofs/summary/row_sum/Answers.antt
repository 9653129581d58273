-- Entry by entry.
use Rattle.std.proofs.Common.{◌≡◌, ◌+◌, ◌*◌, ◌%◌, length, slice_index, ap, subst, sym, ◌∙◌, arith}
use Rattle.residue_words.specs.Matrix.{IsVector, entry, row}
use Rattle.residue_words.specs.Residues.{sum_below}
use Rattle.spasm_run.proofs.PlaceSums.{no_term, weighted_all, weighted_more}
use Rattle.spasm_run.proofs.summary.row_sum.Goals as goal

pub loop-k-init : goal.loop-k-init
loop-k-init c = record {
  sum = no_term c.modulus-p.result (λ t. (slice_index c.cols-cols.result.now t + 1) * slice_index c.vals-vals.result.now t);
  residue = omega (arith, c.modulus-p.ensures.two_or_more);
}

pub loop-k-preserved : goal.loop-k-preserved
loop-k-preserved c = record {
  sum = weighted_more c.modulus-p.result c.cols-cols.result.now c.vals-vals.result.now c.loop-k.k c.loop-k.sum c.residue-weight.result c.mul.result c.add-sum.result c.loop-k.invariant.sum
      (c.residue-weight.ensures.value ∙ ap (λ x. (x + 1) % c.modulus-p.result) c.from.ensures) c.mul.ensures.value c.add-sum.ensures.value;
  residue = c.add-sum.ensures.residue;
}

pub returns-clause-value : goal.returns-clause-value
returns-clause-value c =
    let A = c.args.rows.now.matrix in
    let ended : c.loop-k.k ≡ length c.cols-cols.result.now = omega (arith, c.loop-k-test.false, c.loop-k.auto.k-end) in
    weighted_all c.modulus-p.result A.width (row A c.args.i) c.cols-cols.result.now c.vals-vals.result.now c.loop-k.k c.loop-k.sum
    (subst (λ p. IsVector p A.width (row A c.args.i)) (sym c.modulus-p.ensures.value) (c.modulus-p.ensures.sound.each c.args.i c.requires))
    c.cols-cols.ensures.support c.vals-vals.ensures.values ended c.loop-k.invariant.sum
    ∙ ap (λ p. sum_below A.width (λ j. (j + 1) * entry A c.args.i j) % p) c.modulus-p.ensures.value
