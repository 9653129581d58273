use Rattle.std.proofs.Common.{◌≡◌, ◌++◌, ◌∷◌, [], rules}
use Rattle.sms_text.proofs.PlainLines.{lines_begin, lines_on}
use Rattle.sms_text.proofs.reader.plain.plain_entries.Goals as goal

pub loop-line-init : goal.loop-line-init
loop-line-init c = rw c.clear.ensures.items (lines_begin c.args.p.now c.args.head.now c.args.bytes.now)

pub loop-line-preserved : goal.loop-line-preserved
loop-line-preserved c =
    let more : c.push.new.self.items ≡ c.loop-line.entries.items ++ c.in-Some.line.entry ∷ [] = search rules in
    rw more (lines_on c.args.p.now c.args.head.now c.args.bytes.now c.loop-line.at c.loop-line.entries.items c.in-Some.line c.loop-line.invariant c.in-Some.ensures)
