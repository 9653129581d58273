-- The input is a text of a matrix and a certificate, or not.
use Rattle.std.proofs.Common.{[], ◌∷◌, refl}
use Rattle.std.proofs.lemmas.Result.{err_from_is_err_and}
use Rattle.sms_text.specs.OuterLines as form
use Rattle.sms_text.specs.Text.{Outer}
use Rattle.spasm_run.proofs.Input.{certificate_read, certificate_unread, first_unread, read_nothing}
use Rattle.spasm_run.proofs.read_matrices.read_to_check.Goals as goal

pub returns-in_default-clause-did : goal.returns-in_default-clause-did
returns-in_default-clause-did g c = read_nothing _ _

pub returns-in_err-a-clause-did : goal.returns-in_err-a-clause-did
returns-in_err-a-clause-did g c =
    let fault = err_from_is_err_and c.from_residual.result c.from_residual.ensures.1 in
    rw (fault.1, fault.2) (first_unread _ _ (Outer form.Certificate ∷ []) c.in-Ok.reader _ _ _ refl c.in-Ok.ensures c.in_err-a.ensures.did)

pub returns-in_err-certificate-clause-did : goal.returns-in_err-certificate-clause-did
returns-in_err-certificate-clause-did g c =
    let fault = err_from_is_err_and c.from_residual-in_err-certificate.result c.from_residual-in_err-certificate.ensures.1 in
    rw (fault.1, fault.2) (certificate_unread _ _ c.in-Ok.reader _ _ _ c.in_ok-a.a c.in-Ok.ensures c.in_ok-a.ensures.did _ c.in_err-certificate.ensures.did)

pub returns-clause-did : goal.returns-clause-did
returns-clause-did g c = certificate_read _ _ c.in-Ok.reader _ _ _ _ c.in-Ok.ensures c.in_ok-a.ensures.did _ c.in_ok-certificate.ensures.did
