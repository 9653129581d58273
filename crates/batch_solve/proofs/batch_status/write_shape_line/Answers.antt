-- Four pieces, one after another.
use Rattle.std.proofs.Common.{Err, Ok, refl}
use Rattle.spasm_run.proofs.Written.{writes_same, writes_stops, writes_then}
use Rattle.batch_solve.proofs.BatchWriting.{shape_pieces}
use Rattle.batch_solve.proofs.batch_status.write_shape_line.Goals as goal

pub returns-in_err-write_with_number : goal.returns-in_err-write_with_number
returns-in_err-write_with_number g c =
    let e = c.in_err-write_with_number.field-0.0 in
    writes_same _ _ _ _ _ (shape_pieces c.args.height c.args.width c.args.question)
    (writes_stops _ e _ _ _ _ c.from_residual.ensures.0 (writes_stops (Err e) e _ _ _ _ refl (writes_stops (Err e) e _ _ _ _ refl c.in_err-write_with_number.ensures)))

pub returns-in_err-write_with_number-2 : goal.returns-in_err-write_with_number-2
returns-in_err-write_with_number-2 g c =
    let e = c.in_err-write_with_number-2.field-0.0 in
    writes_same _ _ _ _ _ (shape_pieces c.args.height c.args.width c.args.question)
    (writes_stops _ e _ _ _ _ c.from_residual-in_err-write_with_number-2.ensures.0 (writes_stops (Err e) e _ _ _ _ refl
    (writes_then (Err e) _ _ _ _ _ c.in_ok-write_with_number.ensures c.in_err-write_with_number-2.ensures)))

pub returns-in_err-write_with_number-3 : goal.returns-in_err-write_with_number-3
returns-in_err-write_with_number-3 g c =
    let e = c.in_err-write_with_number-3.field-0.0 in
    writes_same _ _ _ _ _ (shape_pieces c.args.height c.args.width c.args.question)
    (writes_stops _ e _ _ _ _ c.from_residual-in_err-write_with_number-3.ensures.0
    (writes_then (Err e) _ _ _ _ _ (writes_then (Ok tt) _ _ _ _ _ c.in_ok-write_with_number.ensures c.in_ok-write_with_number-2.ensures) c.in_err-write_with_number-3.ensures))

pub returns : goal.returns
returns g c =
    writes_same _ _ _ _ _ (shape_pieces c.args.height c.args.width c.args.question)
    (writes_then _ _ _ _ _ _ (writes_then (Ok tt) _ _ _ _ _ (writes_then (Ok tt) _ _ _ _ _ c.in_ok-write_with_number.ensures c.in_ok-write_with_number-2.ensures) c.in_ok-write_with_number-3.ensures) c.write_text.ensures)
