-- The title, and then the text.
use Rattle.std.proofs.Common.{◌++◌, ap, append-nil, refl, sym}
use Rattle.std.proofs.lemmas.Result.{err_from_is_err_and}
use Rattle.byte_streams.proofs.Added.{added_nothing, added_more, added_fault, added_sent}
use Rattle.sms_text.specs.Written.{text_of}
use Rattle.sms_text.proofs.writing_rows.write_titled.Goals as goal

pub returns-in_err-add : goal.returns-in_err-add
returns-in_err-add g c =
    let fault = err_from_is_err_and c.from_residual.result c.from_residual.ensures.1 in
    rw fault.1 (added_fault _ _ _ _ _ _ _ _ (ap (λ t. t ++ text_of c.args.rows.now.matrix) (sym c.as_bytes.ensures.value))
    (added_nothing _ _ _ _ c.new-blocks.ensures) c.in_err-add.ensures.did)

pub returns-in_err-add_rows : goal.returns-in_err-add_rows
returns-in_err-add_rows g c =
    let fault = err_from_is_err_and c.from_residual-in_err-add_rows.result c.from_residual-in_err-add_rows.ensures.1 in
    rw fault.1 (added_fault _ _ _ _ _ _ _ _ (sym (append-nil (text_of c.args.rows.now.matrix)))
    (added_more _ _ _ _ _ _ _ (ap (λ t. t ++ text_of c.args.rows.now.matrix) (sym c.as_bytes.ensures.value))
    (added_nothing _ _ _ _ c.new-blocks.ensures) c.in_ok-add.ensures.did) c.in_err-add_rows.ensures)

pub returns : goal.returns
returns g c =
    added_sent _ _ _ _ _ _ refl
    (added_more _ _ _ _ _ _ _ (sym (append-nil (text_of c.args.rows.now.matrix)))
    (added_more _ _ _ _ _ _ _ (ap (λ t. t ++ text_of c.args.rows.now.matrix) (sym c.as_bytes.ensures.value))
    (added_nothing _ _ _ _ c.new-blocks.ensures) c.in_ok-add.ensures.did) c.in_ok-add_rows.ensures) c.send.ensures.did
