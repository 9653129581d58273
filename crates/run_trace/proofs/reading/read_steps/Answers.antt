-- Line by line.
use Rattle.std.proofs.Common.{◌≡◌, ◌++◌, ◌∷◌, [], None, Some, sym, ap, ◌∙◌, refl, subst, arith, rules}
use Rattle.std.specs.Prelude.{All}
use Rattle.std.proofs.lemmas.List.Elements.{All-nil, All-push}
use Rattle.sms_text.specs.declared.kind.Kind.TheVariants as kind
use Rattle.sms_text.specs.declared.kind.TextError.TheVariants as error
use Rattle.sms_text.specs.OuterLines.{Step}
use Rattle.sms_text.specs.Parts.{SaysLines, wants}
use Rattle.sms_text.specs.Reading.{input}
use Rattle.sms_text.specs.Text.{step_lines}
use Rattle.sms_text.proofs.CountedLines.{lines_begin, lines_go, lines_end, lines_pause, lines_stop, lines_refuse, lines_shut}
use Rattle.sms_text.proofs.Parts.{part_handed}
use Rattle.run_trace.specs.TraceText.{IsTextPublication, publication_of}
use Rattle.run_trace.proofs.reading.read_steps.Goals as goal

pub loop-init : goal.loop-init
loop-init g c = (
  subst (All IsTextPublication) (sym c.new-publications.ensures) (All-nil IsTextPublication),
  λ p. lines_begin Step publication_of p c.args.count (input c.args.reader.now (g.S.Source.state c.args.source.now)) c.new-publications.result c.requires.sound c.requires.closed c.new-publications.ensures,
)

pub words-requires : goal.words-requires
words-requires g c = lines_shut Step publication_of 0 _ _ _ _ _ (c.loop.invariant.1 0)

pub returns-in_err-line-clause-did : goal.returns-in_err-line-clause-did
returns-in_err-line-clause-did g c = λ p.
    let e = c.in_err-line.field-0.0 in
    let old = input c.args.reader.now (g.S.Source.state c.args.source.now) in
    let mid = input c.loop.reader (g.S.Source.state c.loop.source) in
    let new = input c.words.new.self (g.S.Source.state c.words.new.source) in
    part_handed (wants p (step_lines c.args.count)) (SaysLines publication_of) old new e c.from_residual.result c.from_residual.ensures.1
    (lines_stop Step publication_of p c.args.count c.loop.counter c.loop.publications old mid new (c.loop.invariant.1 p) c.loop-test.true e c.in_err-line.ensures.did)

pub returns-in_default-clause-did : goal.returns-in_default-clause-did
returns-in_default-clause-did g c = λ p.
    let is : c.refuse.result ≡ error.Bad c.in_ok-line.line.number kind.Trace = c.refuse.ensures.value ∙ ap (λ n. error.Bad n kind.Trace) c.number.ensures in
    lines_refuse Step publication_of p c.args.count c.loop.counter c.loop.publications (input c.args.reader.now (g.S.Source.state c.args.source.now)) (input c.loop.reader (g.S.Source.state c.loop.source))
    (input c.words.new.self (g.S.Source.state c.words.new.source)) (c.loop.invariant.1 p) c.loop-test.true
    c.in_ok-line.line c.refuse.result c.refuse.new.self c.in_ok-line.ensures.did (search rules) is (c.refuse.ensures.kept ∙ ap (λ e. record c.words.new.self { error = Some e; last = None }) (sym c.refuse.ensures.value))

pub returns-then-is_err-clause-did : goal.returns-then-is_err-clause-did
returns-then-is_err-clause-did g c = λ p.
    let s = c.in-Some.ensures in
    lines_pause Step publication_of p c.args.count c.loop.counter c.loop.publications _ (input c.loop.reader (g.S.Source.state c.loop.source)) _ (c.loop.invariant.1 p) c.loop-test.true
    c.in-Some.publication c.in_ok-line.line (λ n ws. refl) c.in_ok-line.ensures.did s.0 s.1 c.in_ok-line.ensures.open

pub loop-preserved : goal.loop-preserved
loop-preserved g c =
    let s = c.in-Some.ensures in
    let more : c.push.new.self ≡ c.loop.publications ++ c.in-Some.publication ∷ [] = search rules in (
      subst (All IsTextPublication) (sym more) (All-push IsTextPublication c.loop.publications c.in-Some.publication c.loop.invariant.0 s.2),
      λ p. lines_go Step publication_of p c.args.count c.loop.counter c.loop.publications _ (input c.loop.reader (g.S.Source.state c.loop.source)) _ (c.loop.invariant.1 p) c.loop-test.true
          c.push.new.self c.in-Some.publication c.in_ok-line.line (λ n ws. refl) c.in_ok-line.ensures.did s.0 s.1 c.in_ok-line.ensures.open more,
    )

pub returns-clause-did : goal.returns-clause-did
returns-clause-did g c = λ p. lines_end Step publication_of p c.args.count c.loop.counter c.loop.publications _ _ (c.loop.invariant.1 p) (search rules)

pub returns-clause-count : goal.returns-clause-count
returns-clause-count g c = omega (arith, (c.loop.invariant.1 0).long, c.loop-test.false)

pub returns-clause-closed : goal.returns-clause-closed
returns-clause-closed g c = lines_shut Step publication_of 0 _ _ _ _ _ (c.loop.invariant.1 0)

pub returns-clause-fits : goal.returns-clause-fits
returns-clause-fits g c = c.loop.invariant.0
