-- Some lines at a time.
use Rattle.std.proofs.Common.{◌+◌, ◌-◌, refl, ◌∙◌, arith}
use Rattle.std.proofs.lemmas.Result.{err_from_is_err_and}
use Rattle.byte_streams.proofs.Added.{added_nothing, added_more, added_fault, added_all}
use Rattle.sms_text.proofs.WrittenRows.{entry_lines_piece, entry_lines_end, row_text_is}
use Rattle.sms_text.proofs.writing_rows.add_row.Goals as goal

pub loop-k-init : goal.loop-k-init
loop-k-init g c = added_nothing _ _ _ _ refl

pub loop-k-preserved : goal.loop-k-preserved
loop-k-preserved g c =
    let k = c.loop-k.k in
    added_more _ _ _ _ _ _ _
    (entry_lines_piece c.args.i k (k + c.min.result - k) _ c.cols-cols.result.now c.vals-vals.result.now _ (omega arith) (c.bytes.ensures.value ∙ c.fill.ensures))
    c.loop-k.invariant c.in_ok-add.ensures.did

pub returns-in_err-add : goal.returns-in_err-add
returns-in_err-add g c =
    let k = c.loop-k.k in
    let fault = err_from_is_err_and c.from_residual.result c.from_residual.ensures.1 in
    rw (fault.1, row_text_is _ _ _ c.cols-cols.result.now c.vals-vals.result.now c.requires.sound c.requires.row c.cols-cols.ensures.support c.vals-vals.ensures.values)
    (added_fault _ _ _ _ _ _ _ _
    (entry_lines_piece c.args.i k (k + c.min.result - k) (k + c.min.result) c.cols-cols.result.now c.vals-vals.result.now _ (omega arith) (c.bytes.ensures.value ∙ c.fill.ensures))
    c.loop-k.invariant c.in_err-add.ensures.did)

pub returns : goal.returns
returns g c =
    rw (row_text_is _ _ _ c.cols-cols.result.now c.vals-vals.result.now c.requires.sound c.requires.row c.cols-cols.ensures.support c.vals-vals.ensures.values)
    (added_all _ _ _ _ (entry_lines_end c.args.i c.loop-k.k _ _ c.loop-k-test.false) c.loop-k.invariant)
