use Rattle.std.proofs.Common.{◌∙◌, arith, subst}
use Rattle.grow_form.specs.Numbering.{IsRowAtColumns}
use Rattle.grow_form.proofs.ByColumns.{moved_all, moved_more, settled_sparse, settled_used}
use Rattle.grow_form.proofs.reduced_form.rows_at_columns.Goals as goal

pub row_at_columns-requires-clause-sparse : goal.row_at_columns-requires-clause-sparse
row_at_columns-requires-clause-sparse c =
    let (order, o, s) = c.requires.settled in
    rw (c.modulus-p.ensures, c.cols.ensures.support, c.vals.ensures.values)
    (settled_sparse c.is_sound.ensures.rows c.is_sound-2.ensures c.requires.by_numbers o s c.loop-k.k (omega (arith, c.loop-k-test.true, c.height-height.ensures.value)))

pub row_at_columns-requires-clause-used : goal.row_at_columns-requires-clause-used
row_at_columns-requires-clause-used c =
    let (order, o, s) = c.requires.settled in
    rw c.cols.ensures.support (settled_used c.is_sound.ensures.rows c.is_sound-2.ensures c.requires.by_numbers o s c.loop-k.k (omega (arith, c.loop-k-test.true, c.height-height.ensures.value)))

pub loop-k-preserved : goal.loop-k-preserved
loop-k-preserved c =
    let (order, o, s) = c.requires.settled in
    let is : IsRowAtColumns c.args.numbering.now c.args.kept.now.modulus c.cols.result.now c.vals.result.now c.in_ok-row.row =
    subst (λ p. IsRowAtColumns c.args.numbering.now p c.cols.result.now c.vals.result.now c.in_ok-row.row) c.modulus-p.ensures c.in_ok-row.ensures in
    record {
      modulus = c.append_entries.ensures.modulus ∙ c.loop-k.invariant.modulus;
      matrix = moved_more c.is_sound.ensures.rows c.is_sound-2.ensures c.requires.by_numbers o s c.append_entries.new.self.matrix (omega (arith, c.loop-k-test.true, c.height-height.ensures.value))
          c.cols.ensures.support c.vals.ensures.values is c.cols-in-loop-k.ensures.support c.vals-in-loop-k.ensures.values c.loop-k.invariant.matrix c.in_ok-append_entries.ensures.matrix;
    }

pub returns-clause-matrix : goal.returns-clause-matrix
returns-clause-matrix c =
    let (order, o, s) = c.requires.settled in
    moved_all c.is_sound.ensures.rows c.is_sound-2.ensures c.requires.by_numbers o s (omega (arith, c.loop-k-test.false, c.height-height.ensures.value, c.loop-k.auto.k-end)) c.loop-k.invariant.matrix
