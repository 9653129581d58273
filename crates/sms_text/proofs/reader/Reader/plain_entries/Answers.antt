use Rattle.sms_text.proofs.PlainLines.{took_entries}
use Rattle.sms_text.proofs.reader.Reader.plain_entries.Goals as goal

pub returns : goal.returns
returns c = took_entries c.args.p.now c.args.head.now c.args.self.now c.self.inside.feed c.take_plain.new.self c.self.inside.error c.self.inside.open_text c.self.inside.last _
    c.self.view_is c.requires.sound c.take_plain.ensures.did
