-- Line by line.
use Rattle.std.proofs.Common.{◌≡◌, ◌++◌, ◌∷◌, [], Ok, Err, arith, refl, rules, subst, sym}
use Rattle.sms_text.specs.PlainLines.{with_entries_pushed}
use Rattle.sms_text.specs.Reading.{input, header_judged}
use Rattle.sms_text.specs.Text.{Header}
use Rattle.sms_text.proofs.ReadingMatrices.{IsMade, reading_begins, reading_goes, reading_plain, plain_pauses, reading_closes, reading_stops, header_stops, header_pauses, entry_pauses, entry_falls, line_last}
use Rattle.sms_text.proofs.reading_rows.read_rows.Goals.{in-Ok-finish, in-Err-finish}
use Rattle.sms_text.proofs.reading_rows.read_rows.Goals as goal

pub returns-in-Err-clause-did : goal.returns-in-Err-clause-did
returns-in-Err-clause-did g c =
    header_stops c.args.p.now (input c.args.reader.now (g.S.Source.state c.args.source.now)) (input c.header.new.self (g.S.Source.state c.header.new.source)) c.in-Err.error c.requires (c.in-Err.ensures.did c.args.p.now)

pub returns-in_default-clause-did : goal.returns-in_default-clause-did
returns-in_default-clause-did g c =
    let e = c.in-Ok.ensures in
    header_pauses c.args.p.now c.in-Ok.head (input c.args.reader.now (g.S.Source.state c.args.source.now)) (input c.header.new.self (g.S.Source.state c.header.new.source)) c.requires (e.did c.args.p.now) e.opens

pub loop-head-init : goal.loop-head-init
loop-head-init g c =
    let e = c.in-Ok.ensures in
    reading_begins c.args.p.now c.in-Ok.head c.in-Ok-new.builder (input c.args.reader.now (g.S.Source.state c.args.source.now)) (input c.header.new.self (g.S.Source.state c.header.new.source)) c.in-Ok-new.ensures c.requires (e.did c.args.p.now) e.opens

pub returns-then-is_err-clause-did : goal.returns-then-is_err-clause-did
returns-then-is_err-clause-did g c =
    plain_pauses c.args.p.now c.in-Ok.head c.loop-head.builder c.take_plain.new.entries.items (input c.args.reader.now (g.S.Source.state c.args.source.now)) (input c.loop-head.reader (g.S.Source.state c.loop-head.source)) c.take_plain.new.reader c.loop-head.invariant c.take_plain.ensures.took

pub loop-head-smaller : goal.loop-head-smaller
loop-head-smaller g c =
    let es = c.take_plain.new.entries.items in
    let more : c.take_plain.new.builder ≡ with_entries_pushed c.loop-head.builder es = search rules in
    let here = reading_plain c.args.p.now c.in-Ok.head c.loop-head.builder c.take_plain.new.builder es (input c.args.reader.now (g.S.Source.state c.args.source.now)) (input c.loop-head.reader (g.S.Source.state c.loop-head.source)) c.take_plain.new.reader c.loop-head.invariant c.take_plain.ensures.took more in
    let falls = entry_falls c.args.p.now c.in-Ok.head c.take_plain.new.builder c.in-Ok-Some.field-0 (input c.args.reader.now (g.S.Source.state c.args.source.now)) (input c.take_plain.new.reader (g.S.Source.state c.loop-head.source)) (input c.entry.new.self (g.S.Source.state c.entry.new.source)) here c.in-Ok-Some.ensures.did in
    omega (arith, falls, c.take_plain.ensures.took.room)

pub loop-head-preserved : goal.loop-head-preserved
loop-head-preserved g c =
    let es = c.take_plain.new.entries.items in
    let more : c.take_plain.new.builder ≡ with_entries_pushed c.loop-head.builder es = search rules in
    let here = reading_plain c.args.p.now c.in-Ok.head c.loop-head.builder c.take_plain.new.builder es (input c.args.reader.now (g.S.Source.state c.args.source.now)) (input c.loop-head.reader (g.S.Source.state c.loop-head.source)) c.take_plain.new.reader c.loop-head.invariant c.take_plain.ensures.took more in
    let e = c.in-Ok-Some.ensures in
    let b = c.take_plain.new.builder in
    let d = c.in-Ok-Some.entry in
    let more : c.push.new.self ≡ record b { pushed = b.pushed ++ record { i = d.i; j = d.j; v = d.v } ∷ [] } = search rules in
    reading_goes c.args.p.now c.in-Ok.head c.take_plain.new.builder c.push.new.self c.in-Ok-Some.entry c.in-Ok-Some.field-0 (input c.args.reader.now (g.S.Source.state c.args.source.now)) (input c.take_plain.new.reader (g.S.Source.state c.loop-head.source)) (input c.entry.new.self (g.S.Source.state c.entry.new.source)) here e.did e.open c.in-Ok-Some.field-0-is more

pub returns-in-Err-entry-clause-did : goal.returns-in-Err-entry-clause-did
returns-in-Err-entry-clause-did g c =
    let es = c.take_plain.new.entries.items in
    let more : c.take_plain.new.builder ≡ with_entries_pushed c.loop-head.builder es = search rules in
    let here = reading_plain c.args.p.now c.in-Ok.head c.loop-head.builder c.take_plain.new.builder es (input c.args.reader.now (g.S.Source.state c.args.source.now)) (input c.loop-head.reader (g.S.Source.state c.loop-head.source)) c.take_plain.new.reader c.loop-head.invariant c.take_plain.ensures.took more in
    reading_stops c.args.p.now c.in-Ok.head c.take_plain.new.builder (input c.args.reader.now (g.S.Source.state c.args.source.now)) (input c.take_plain.new.reader (g.S.Source.state c.loop-head.source)) (input c.entry.new.self (g.S.Source.state c.entry.new.source)) c.in-Err-entry.error here c.in-Err-entry.ensures.did

pub returns-in-Err-clause-last : goal.returns-in-Err-clause-last
returns-in-Err-clause-last g c =
    line_last c.args.p.now Header (input c.args.reader.now (g.S.Source.state c.args.source.now)) (input c.header.new.self (g.S.Source.state c.header.new.source)) (header_judged (Err c.in-Err.error)) (c.in-Err.ensures.did c.args.p.now)

pub returns-in_default-clause-last : goal.returns-in_default-clause-last
returns-in_default-clause-last g c =
    line_last c.args.p.now Header (input c.args.reader.now (g.S.Source.state c.args.source.now)) (input c.header.new.self (g.S.Source.state c.header.new.source)) (header_judged (Ok c.in-Ok.head)) (c.in-Ok.ensures.did c.args.p.now)

pub returns-in_default-with_capacity-clause-did : goal.returns-in_default-with_capacity-clause-did
returns-in_default-with_capacity-clause-did g c =
    let e = c.in-Ok.ensures in
    header_pauses c.args.p.now c.in-Ok.head (input c.args.reader.now (g.S.Source.state c.args.source.now)) (input c.header.new.self (g.S.Source.state c.header.new.source)) c.requires (e.did c.args.p.now) e.opens

pub returns-in_default-with_capacity-clause-last : goal.returns-in_default-with_capacity-clause-last
returns-in_default-with_capacity-clause-last g c =
    line_last c.args.p.now Header (input c.args.reader.now (g.S.Source.state c.args.source.now)) (input c.header.new.self (g.S.Source.state c.header.new.source)) (header_judged (Ok c.in-Ok.head)) (c.in-Ok.ensures.did c.args.p.now)

pub returns-then-is_err-2-clause-did : goal.returns-then-is_err-2-clause-did
returns-then-is_err-2-clause-did g c =
    let es = c.take_plain.new.entries.items in
    let more : c.take_plain.new.builder ≡ with_entries_pushed c.loop-head.builder es = search rules in
    let here = reading_plain c.args.p.now c.in-Ok.head c.loop-head.builder c.take_plain.new.builder es (input c.args.reader.now (g.S.Source.state c.args.source.now)) (input c.loop-head.reader (g.S.Source.state c.loop-head.source)) c.take_plain.new.reader c.loop-head.invariant c.take_plain.ensures.took more in
    let e = c.in-Ok-Some.ensures in
    entry_pauses c.args.p.now c.in-Ok.head c.take_plain.new.builder c.in-Ok-Some.entry c.in-Ok-Some.field-0 (input c.args.reader.now (g.S.Source.state c.args.source.now)) (input c.take_plain.new.reader (g.S.Source.state c.loop-head.source)) (input c.entry.new.self (g.S.Source.state c.entry.new.source)) here e.did e.open c.in-Ok-Some.field-0-is

pub returns-in-Ok-None-clause-did : goal.returns-in-Ok-None-clause-did
returns-in-Ok-None-clause-did g c =
    let es = c.take_plain.new.entries.items in
    let more : c.take_plain.new.builder ≡ with_entries_pushed c.loop-head.builder es = search rules in
    let here = reading_plain c.args.p.now c.in-Ok.head c.loop-head.builder c.take_plain.new.builder es (input c.args.reader.now (g.S.Source.state c.args.source.now)) (input c.loop-head.reader (g.S.Source.state c.loop-head.source)) c.take_plain.new.reader c.loop-head.invariant c.take_plain.ensures.took more in
    let e = c.in-Ok-None.ensures in
    let made : IsMade c.take_plain.new.builder c.match-finish.result = elim c.match-finish.branch [
      | in-Ok-finish w ↦ subst (IsMade c.take_plain.new.builder) (sym w.result-is) (w.in-Ok-finish.ensures.modulus, w.in-Ok-finish.ensures.matrix)
      | in-Err-finish w ↦ subst (IsMade c.take_plain.new.builder) (sym w.result-is) refl
    ] in
    reading_closes c.args.p.now c.in-Ok.head c.take_plain.new.builder c.in-Ok-None.field-0 (input c.args.reader.now (g.S.Source.state c.args.source.now)) (input c.take_plain.new.reader (g.S.Source.state c.loop-head.source)) (input c.entry.new.self (g.S.Source.state c.entry.new.source)) c.match-finish.result here e.did e.open c.in-Ok-None.field-0-is made
