use Rattle.std.proofs.Common.{◌∙◌, arith}
use Rattle.std.proofs.lemmas.Slice.{between_to_end}
use Rattle.sms_text.proofs.PutLines.{half_put}
use Rattle.sms_text.proofs.row_lines.RowStart.put.Goals as goal

pub returns-clause-written : goal.returns-clause-written
returns-clause-written c =
    rw (← c.self.view_is)
    (half_put c.args.end c.self.inside.from c.self.inside.bytes c.copy_from_slice.new.self c.args.bytes.now (omega arith) c.self.invariant.0 c.self.invariant.1
    c.requires.0 c.requires.1 (c.copy_from_slice.ensures.after ∙ between_to_end c.self.inside.bytes 16 32 (omega arith)))
