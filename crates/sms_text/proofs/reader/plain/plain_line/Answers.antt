use Rattle.std.proofs.Common.{refl}
use Rattle.sms_text.proofs.PlainLines.{line_found}
use Rattle.sms_text.proofs.reader.plain.plain_line.Goals as goal

pub returns : goal.returns
returns c = line_found c.args.p.now c.args.head.now c.args.bytes.now c.args.at c.in_ok-row.row c.in_ok-column.column c.in_ok-value.value _
    c.in_ok-row.ensures c.in_ok-column.ensures c.in_ok-value.ensures refl
