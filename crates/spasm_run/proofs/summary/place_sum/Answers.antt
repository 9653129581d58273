-- Row by row.
use Rattle.std.proofs.Common.{◌+◌, ◌*◌, ◌%◌, ap, sym, ◌∙◌, arith}
use Rattle.residue_words.specs.Matrix.{entry}
use Rattle.residue_words.specs.Residues.{sum_below}
use Rattle.spasm_run.proofs.PlaceSums.{no_term, rows_more}
use Rattle.spasm_run.proofs.summary.place_sum.Goals as goal

pub loop-i-init : goal.loop-i-init
loop-i-init c =
    let A = c.args.rows.now.matrix in record {
      sum = no_term c.modulus-p.result (λ i. sum_below A.width (λ j. (i + 1) * (j + 1) * entry A i j));
      residue = omega (arith, c.modulus-p.ensures.two_or_more);
    }

pub loop-i-preserved : goal.loop-i-preserved
loop-i-preserved c =
    let A = c.args.rows.now.matrix in record {
      sum = rows_more c.modulus-p.result A c.loop-i.i c.loop-i.sum c.residue-weight.result c.row_sum.result c.mul.result c.add-sum.result c.loop-i.invariant.sum
          (c.residue-weight.ensures.value ∙ ap (λ x. (x + 1) % c.modulus-p.result) c.from.ensures)
          (c.row_sum.ensures.value ∙ ap (λ p. sum_below A.width (λ j. (j + 1) * entry A c.loop-i.i j) % p) (sym c.modulus-p.ensures.value)) c.mul.ensures.value c.add-sum.ensures.value;
      residue = c.add-sum.ensures.residue;
    }
