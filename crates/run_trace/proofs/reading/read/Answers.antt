-- The first line, and then the publications.
use Rattle.std.proofs.Common.{arith, ◌∷◌, [], refl}
use Rattle.sms_text.specs.OuterLines as form
use Rattle.sms_text.specs.Reading.{input}
use Rattle.sms_text.specs.Text.{Outer}
use Rattle.sms_text.proofs.Parts.{first_missed, part_handed}
use Rattle.run_trace.specs.TraceParts.{SaysTraceTitle}
use Rattle.run_trace.specs.TraceText.{SaysTrace}
use Rattle.run_trace.proofs.TraceRead.{a_trace, title_read, steps_unread, trace_read}
use Rattle.run_trace.proofs.reading.read.Goals as goal

pub returns-in_err-title-clause-did : goal.returns-in_err-title-clause-did
returns-in_err-title-clause-did g c = λ p.
    let s0 = input c.args.reader.now (g.S.Source.state c.args.source.now) in
    let s1 = input c.read_title.new.reader (g.S.Source.state c.read_title.new.source) in
    part_handed (a_trace p) SaysTrace s0 s1 c.in_err-title.field-0.0 c.from_residual.result c.from_residual.ensures.1
    (first_missed p (Outer form.Trace ∷ []) [] SaysTraceTitle SaysTrace s0 s1 c.in_err-title.field-0.0 c.requires refl (c.in_err-title.ensures.did p))

pub read_steps-requires-clause-sound : goal.read_steps-requires-clause-sound
read_steps-requires-clause-sound g c =
    let s0 = input c.args.reader.now (g.S.Source.state c.args.source.now) in
    let s1 = input c.read_title.new.reader (g.S.Source.state c.read_title.new.source) in
    (title_read 0 c.in_ok-title.title s0 s1 (c.in_ok-title.ensures.did 0)).so_far.stands.sound

pub returns-in_err-publications-clause-did : goal.returns-in_err-publications-clause-did
returns-in_err-publications-clause-did g c = λ p.
    let s0 = input c.args.reader.now (g.S.Source.state c.args.source.now) in
    let s1 = input c.read_title.new.reader (g.S.Source.state c.read_title.new.source) in
    let s2 = input c.read_steps.new.reader (g.S.Source.state c.read_steps.new.source) in
    let t = c.in_ok-title.title in
    let title = title_read p t s0 s1 (c.in_ok-title.ensures.did p) in
    part_handed (a_trace p) SaysTrace s0 s2 c.in_err-publications.field-0.0 c.from_residual-in_err-publications.result c.from_residual-in_err-publications.ensures.1
    (steps_unread p t c.in_err-publications.field-0.0 s0 s1 s2 title (c.in_err-publications.ensures.did p))

pub returns-clause-did : goal.returns-clause-did
returns-clause-did g c = λ p.
    let s0 = input c.args.reader.now (g.S.Source.state c.args.source.now) in
    let s1 = input c.read_title.new.reader (g.S.Source.state c.read_title.new.source) in
    let s2 = input c.read_steps.new.reader (g.S.Source.state c.read_steps.new.source) in
    let t = c.in_ok-title.title in
    trace_read p t c.in_ok-publications.publications s0 s1 s2 (title_read p t s0 s1 (c.in_ok-title.ensures.did p)) (c.in_ok-publications.ensures.did p)

pub returns-clause-fits : goal.returns-clause-fits
returns-clause-fits g c =
    let size = c.in_ok-title.ensures.sizes in
    record {
      modulus = size.0;
      count = omega (arith, size.1, c.in_ok-publications.ensures.count);
      publications = c.in_ok-publications.ensures.fits;
    }
