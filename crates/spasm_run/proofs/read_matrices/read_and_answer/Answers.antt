-- The input is a text of a matrix and a script, or not.
use Rattle.std.proofs.lemmas.Result.{err_from_is_err_and}
use Rattle.grow_form.proofs.ScriptAnswers.{sound_behind}
use Rattle.spasm_run.proofs.Input.{read_nothing}
use Rattle.spasm_run.proofs.Scripted.{matrix_unread, script_read, script_unread}
use Rattle.spasm_run.proofs.read_matrices.read_and_answer.Goals as goal

pub returns-in_default-clause-did : goal.returns-in_default-clause-did
returns-in_default-clause-did g c = read_nothing _ _

pub returns-in_err-a-clause-did : goal.returns-in_err-a-clause-did
returns-in_err-a-clause-did g c =
    let fault = err_from_is_err_and c.from_residual.result c.from_residual.ensures.1 in
    rw (fault.1, fault.2) (matrix_unread _ _ c.in-Ok.reader _ _ _ c.in-Ok.ensures c.in_err-a.ensures.did)

pub answer_script-requires-clause-sound : goal.answer_script-requires-clause-sound
answer_script-requires-clause-sound g c = sound_behind _ _ _ c.in_ok-a.a c.in_ok-a.ensures.did

pub returns-in_err-answers-clause-did : goal.returns-in_err-answers-clause-did
returns-in_err-answers-clause-did g c =
    let fault = err_from_is_err_and c.from_residual-in_err-answers.result c.from_residual-in_err-answers.ensures.1 in
    rw (fault.1, fault.2) (script_unread _ _ c.in-Ok.reader _ _ _ c.in_ok-a.a c.in-Ok.ensures c.in_ok-a.ensures.did _ c.in_err-answers.ensures.did)

pub returns-clause-did : goal.returns-clause-did
returns-clause-did g c = script_read _ _ c.in-Ok.reader _ _ _ c.in_ok-a.a c.in-Ok.ensures c.in_ok-a.ensures.did c.in_ok-answers.answers c.in_ok-answers.ensures.did
