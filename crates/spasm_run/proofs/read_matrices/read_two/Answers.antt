-- The input is texts of two matrices, or not.
use Rattle.std.proofs.Common.{[], ◌∷◌, refl}
use Rattle.std.proofs.lemmas.Result.{err_from_is_err_and}
use Rattle.sms_text.specs.Text.{Header}
use Rattle.spasm_run.proofs.Input.{first_unread, read_nothing, second_unread, two_read}
use Rattle.spasm_run.proofs.read_matrices.read_two.Goals as goal

pub returns-in_default-clause-did : goal.returns-in_default-clause-did
returns-in_default-clause-did g c = read_nothing _ _

pub returns-in_err-a-clause-did : goal.returns-in_err-a-clause-did
returns-in_err-a-clause-did g c =
    let fault = err_from_is_err_and c.from_residual.result c.from_residual.ensures.1 in
    rw (fault.1, fault.2) (first_unread _ _ (Header ∷ []) c.in-Ok.reader _ _ _ refl c.in-Ok.ensures c.in_err-a.ensures.did)

pub returns-in_err-b-clause-did : goal.returns-in_err-b-clause-did
returns-in_err-b-clause-did g c =
    let fault = err_from_is_err_and c.from_residual-in_err-b.result c.from_residual-in_err-b.ensures.1 in
    rw (fault.1, fault.2) (second_unread _ _ c.in-Ok.reader _ _ _ c.in_ok-a.a c.in-Ok.ensures c.in_ok-a.ensures.did _ c.in_err-b.ensures.did)

pub returns-clause-did : goal.returns-clause-did
returns-clause-did g c = two_read _ _ c.in-Ok.reader _ _ _ _ c.in-Ok.ensures c.in_ok-a.ensures.did _ c.in_ok-b.ensures.did
