-- The text is written and its status told, or the fault is.
use Rattle.std.proofs.Common.{true, false, ◌≡◌, ◌∙◌, ap, sym}
use Rattle.spasm_run.specs.Status.{is_written}
use Rattle.spasm_run.proofs.Whole.{behind_is_written, part_written, whole_written}
use Rattle.spasm_run.proofs.running.write_found.Goals as goal

pub returns-in-Ok-write-clause-written : goal.returns-in-Ok-write-clause-written
returns-in-Ok-write-clause-written g c = whole_written _ _ c.in-Ok.is c.status.ensures c.in-Ok-write.ensures

pub returns-in-Ok-clause-written : goal.returns-in-Ok-clause-written
returns-in-Ok-clause-written g c = part_written _ _ c.in-Ok.is c.in-Err-write.ensures

pub returns-in-Ok-write-clause-unwritten : goal.returns-in-Ok-write-clause-unwritten
returns-in-Ok-write-clause-unwritten g c = λ none.
    let both : true ≡ false = sym (behind_is_written c.in-Ok.answer) ∙ sym (ap is_written c.status.ensures) ∙ none in
    absurd (let never : ⊥ = cc in never)
