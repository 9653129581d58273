use Rattle.spasm_run.proofs.Written.{writes_then, writes_stops}
use Rattle.spasm_run.proofs.numbered_text.write_line.Goals as goal

pub returns-in_err-write_with_number : goal.returns-in_err-write_with_number
returns-in_err-write_with_number g c =
    writes_stops _ c.in_err-write_with_number.field-0.0 _ _ _ _ c.from_residual.ensures.0 c.in_err-write_with_number.ensures

pub returns : goal.returns
returns g c = writes_then _ _ _ _ _ _ c.in_ok-write_with_number.ensures c.write_text.ensures
