use Rattle.std.proofs.Common.{◌≡◌, arith, subst, sym}
use Rattle.residue_words.specs.Matrix.{row}
use Rattle.sparse_rows.specs.Rows.{AreBelow, support}
use Rattle.triangular_solve.specs.ColumnMarks.{AreMarksOf}
use Rattle.triangular_solve.proofs.MarkingColumns.{row_marks_more, row_marks_none}
use Rattle.triangular_solve.proofs.PlacingRows.{pair_row}
use Rattle.triangular_solve.proofs.column_marks.mark_rows.Goals as goal

pub loop-k-init : goal.loop-k-init
loop-k-init c = row_marks_none c.args.rows.now.matrix c.args.pairs.now c.args.marks.now c.requires.width c.requires.none

pub cols-requires : goal.cols-requires
cols-requires c = omega (arith, pair_row c.args.pairs.now c.loop-k.k c.loop-k-test.true, c.requires.inside c.loop-k.k c.loop-k-test.true)

pub mark-requires : goal.mark-requires
mark-requires c = subst (λ n. AreBelow n c.cols.result.now) (sym c.loop-k.invariant.long) c.cols.ensures.below_width

pub loop-k-preserved : goal.loop-k-preserved
loop-k-preserved c =
    let A = c.args.rows.now.matrix in
    let l = c.loop-k-test.true in
    row_marks_more c.is_sound.ensures.entries (c.requires.inside c.loop-k.k l)
    (subst (λ i. c.cols.result.now ≡ support (row A i)) (pair_row c.args.pairs.now c.loop-k.k l) c.cols.ensures.support) c.loop-k.invariant c.mark.ensures

pub returns : goal.returns
returns c = let e = c.loop-k.auto.k-end in subst (λ n. AreMarksOf c.args.rows.now.matrix c.args.pairs.now n c.loop-k.marks) (omega (arith, c.loop-k-test.false, e)) c.loop-k.invariant
