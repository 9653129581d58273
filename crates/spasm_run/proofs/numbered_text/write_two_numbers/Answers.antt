-- Three pieces, one after another.
use Rattle.std.proofs.Common.{Err, Ok, refl}
use Rattle.spasm_run.proofs.Written.{writes_then, writes_stops}
use Rattle.spasm_run.proofs.numbered_text.write_two_numbers.Goals as goal

pub returns-in_err-write_with_number : goal.returns-in_err-write_with_number
returns-in_err-write_with_number g c =
    let e = c.in_err-write_with_number.field-0.0 in
    writes_stops _ e _ _ _ _ c.from_residual.ensures.0 (writes_stops (Err e) e _ _ _ _ refl c.in_err-write_with_number.ensures)

pub returns-in_err-write_with_number-2 : goal.returns-in_err-write_with_number-2
returns-in_err-write_with_number-2 g c =
    let e = c.in_err-write_with_number-2.field-0.0 in
    writes_stops _ e _ _ _ _ c.from_residual-in_err-write_with_number-2.ensures.0
    (writes_then (Err e) _ _ _ _ _ c.in_ok-write_with_number.ensures c.in_err-write_with_number-2.ensures)

pub returns : goal.returns
returns g c = writes_then _ _ _ _ _ _ (writes_then (Ok tt) _ _ _ _ _ c.in_ok-write_with_number.ensures c.in_ok-write_with_number-2.ensures) c.write_text.ensures
