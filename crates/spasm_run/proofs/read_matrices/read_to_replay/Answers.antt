-- The input is a text of a matrix and a trace, or not.
use Rattle.std.proofs.Common.{[], ◌∷◌, refl}
use Rattle.std.proofs.lemmas.Result.{err_from_is_err_and}
use Rattle.sms_text.specs.OuterLines as form
use Rattle.sms_text.specs.Text.{Outer}
use Rattle.spasm_run.proofs.Input.{first_unread, read_nothing, trace_read, trace_unread}
use Rattle.spasm_run.proofs.read_matrices.read_to_replay.Goals as goal

pub returns-in_default-clause-did : goal.returns-in_default-clause-did
returns-in_default-clause-did g c = read_nothing _ _

pub returns-in_err-a-clause-did : goal.returns-in_err-a-clause-did
returns-in_err-a-clause-did g c =
    let fault = err_from_is_err_and c.from_residual.result c.from_residual.ensures.1 in
    rw (fault.1, fault.2) (first_unread _ _ (Outer form.Trace ∷ []) c.in-Ok.reader _ _ _ refl c.in-Ok.ensures c.in_err-a.ensures.did)

pub returns-in_err-trace-clause-did : goal.returns-in_err-trace-clause-did
returns-in_err-trace-clause-did g c =
    let fault = err_from_is_err_and c.from_residual-in_err-trace.result c.from_residual-in_err-trace.ensures.1 in
    rw (fault.1, fault.2) (trace_unread c.args.p.now _ c.in-Ok.reader _ _ _ c.in_ok-a.a c.in-Ok.ensures c.in_ok-a.ensures.did _ (c.in_err-trace.ensures.did c.args.p.now))

pub returns-clause-did : goal.returns-clause-did
returns-clause-did g c = trace_read c.args.p.now _ c.in-Ok.reader _ _ _ _ c.in-Ok.ensures c.in_ok-a.ensures.did _ (c.in_ok-trace.ensures.did c.args.p.now)
