-- Row by row.
use Rattle.std.proofs.Common.{◌+◌, ◌-◌, ◌<◌, refl, arith}
use Rattle.std.proofs.lemmas.Result.{err_from_is_err_and}
use Rattle.byte_streams.proofs.Added.{added_nothing, added_more, added_fault, added_all}
use Rattle.sms_text.proofs.WrittenRows.{text_from, rows_from_next, rows_from_last}
use Rattle.sms_text.proofs.writing_rows.add_rows.Goals as goal

pub loop-i-init : goal.loop-i-init
loop-i-init g c =
    added_more _ _ _ _ _ _ _ (text_from c.args.rows.now.matrix _ _ c.height-height.ensures.value c.width.ensures.value)
    (added_nothing _ _ _ _ refl) c.in_ok-add_head.ensures

pub loop-i-preserved : goal.loop-i-preserved
loop-i-preserved g c =
    added_more _ _ _ _ _ _ _ (rows_from_next c.args.rows.now.modulus c.loop-i.from c.in-Some.i c.args.rows.now.matrix c.height-height.ensures.sound c.in-Some.ensures)
    c.loop-i.invariant c.in_ok-add_row.ensures

pub returns-in_err-add_head : goal.returns-in_err-add_head
returns-in_err-add_head g c =
    let fault = err_from_is_err_and c.from_residual.result c.from_residual.ensures.1 in
    rw fault.1 (added_fault _ _ _ _ _ _ _ _ (text_from c.args.rows.now.matrix _ _ c.height-height.ensures.value c.width.ensures.value)
    (added_nothing _ _ _ _ refl) c.in_err-add_head.ensures)

pub returns-in_err-add_row : goal.returns-in_err-add_row
returns-in_err-add_row g c =
    let fault = err_from_is_err_and c.from_residual-in_err-add_row.result c.from_residual-in_err-add_row.ensures.1 in
    rw fault.1 (added_fault _ _ _ _ _ _ _ _ (rows_from_next c.args.rows.now.modulus c.loop-i.from c.in-Some.i c.args.rows.now.matrix c.height-height.ensures.sound c.in-Some.ensures)
    c.loop-i.invariant c.in_err-add_row.ensures)

pub returns-in_err-add_end : goal.returns-in_err-add_end
returns-in_err-add_end g c =
    let fault = err_from_is_err_and c.from_residual-in_err-add_end.result c.from_residual-in_err-add_end.ensures.1 in
    rw fault.1 (added_fault _ _ _ _ _ _ _ _ (rows_from_last c.args.rows.now.modulus c.loop-i.from c.args.rows.now.matrix c.height-height.ensures.sound c.in_default.ensures)
    c.loop-i.invariant c.in_err-add_end.ensures)

pub returns : goal.returns
returns g c =
    added_all _ _ _ _ refl
    (added_more _ _ _ _ _ _ _ (rows_from_last c.args.rows.now.modulus c.loop-i.from c.args.rows.now.matrix c.height-height.ensures.sound c.in_default.ensures)
    c.loop-i.invariant c.in_ok-add_end.ensures)

pub loop-i-smaller : goal.loop-i-smaller
loop-i-smaller g c =
    let less : c.args.rows.now.matrix.height - (c.in-Some.i + 1) < c.args.rows.now.matrix.height - c.loop-i.from = omega (arith, c.in-Some.ensures.low, c.in-Some.ensures.below) in less
