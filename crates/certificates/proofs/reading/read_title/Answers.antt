-- The first line, or why there is none.
use Rattle.std.proofs.Common.{◌≡◌, ◌∷◌, [], None, Some, refl, sym, ap, ◌∙◌}
use Rattle.sms_text.specs.declared.kind.Kind.TheVariants as kind
use Rattle.sms_text.specs.declared.kind.TextError.TheVariants as error
use Rattle.sms_text.specs.OuterLines as form
use Rattle.sms_text.specs.Parts.{wants}
use Rattle.sms_text.specs.Reading.{input}
use Rattle.sms_text.specs.Text.{Outer}
use Rattle.sms_text.proofs.Parts.{first_outer_missing, first_outer_unfit, first_outer_shown, part_handed}
use Rattle.certificates.specs.CertificateParts.{SaysCertificateTitle}
use Rattle.certificates.proofs.CertificateRead.{title_closed}
use Rattle.certificates.proofs.reading.read_title.Goals as goal

pub returns-in_err-line-clause-did : goal.returns-in_err-line-clause-did
returns-in_err-line-clause-did g c = λ p.
    let e = c.in_err-line.field-0.0 in
    let old = input c.args.reader.now (g.S.Source.state c.args.source.now) in
    let new = input c.words.new.self (g.S.Source.state c.words.new.source) in
    part_handed (wants p (Outer form.Certificate ∷ [])) SaysCertificateTitle old new e c.from_residual.result c.from_residual.ensures.1
    (first_outer_missing p form.Certificate [] SaysCertificateTitle old new e c.requires c.in_err-line.ensures.did)

pub returns-in-Some-clause-did : goal.returns-in-Some-clause-did
returns-in-Some-clause-did g c = λ p.
    let ws = c.in_ok-line.line.words in
    let t = c.in-Some.title in
    first_outer_shown p form.Certificate SaysCertificateTitle (input c.args.reader.now (g.S.Source.state c.args.source.now)) (input c.words.new.self (g.S.Source.state c.words.new.source)) c.in_ok-line.line t c.requires c.in_ok-line.ensures.did
    c.in-Some.ensures.form (c.in_ok-line.ensures.open ∙ sym (title_closed ws t c.in-Some.ensures))
    (record { words = ws; items_are = refl; due_are = refl; title = c.in-Some.ensures })

pub returns-clause-did : goal.returns-clause-did
returns-clause-did g c = λ p.
    let is : c.refuse.result ≡ error.Bad c.in_ok-line.line.number kind.Certificate = c.refuse.ensures.value ∙ ap (λ n. error.Bad n kind.Certificate) c.number.ensures in
    first_outer_unfit p form.Certificate [] SaysCertificateTitle (input c.args.reader.now (g.S.Source.state c.args.source.now)) (input c.words.new.self (g.S.Source.state c.words.new.source)) c.in_ok-line.line c.refuse.result c.refuse.new.self
    c.requires c.in_ok-line.ensures.did c.in-None.ensures is (c.refuse.ensures.kept ∙ ap (λ e. record c.words.new.self { error = Some e; last = None }) (sym c.refuse.ensures.value))
