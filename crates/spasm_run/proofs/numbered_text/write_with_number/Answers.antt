use Rattle.spasm_run.proofs.Written.{writes_then, writes_stops}
use Rattle.spasm_run.proofs.numbered_text.write_with_number.Goals as goal

pub returns-in_err-write_text : goal.returns-in_err-write_text
returns-in_err-write_text g c = writes_stops _ c.in_err-write_text.field-0.0 _ _ _ _ c.from_residual.ensures.0 c.in_err-write_text.ensures

pub returns : goal.returns
returns g c = writes_then _ _ _ _ _ _ c.in_ok-write_text.ensures c.write_number.ensures
