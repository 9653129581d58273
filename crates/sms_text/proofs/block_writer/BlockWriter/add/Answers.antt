use Rattle.std.proofs.lemmas.Result.{err_from_is_err_and}
use Rattle.byte_streams.proofs.Puts.{fault_before_piece}
use Rattle.sms_text.proofs.block_writer.BlockWriter.add.Goals as goal

pub returns-in_err-send-clause-did : goal.returns-in_err-send-clause-did
returns-in_err-send-clause-did g c =
    let p = err_from_is_err_and c.from_residual.result c.from_residual.ensures.1 in
    rw p.1 (fault_before_piece _ _ _ _ _ c.in_err-send.ensures.did)
