-- One line, or why there is none.
use Rattle.std.proofs.Common.{◌≡◌, ◌∷◌, [], MatchOption, None, Some, false, subst, sym, ap, ◌∙◌}
use Rattle.sms_text.specs.declared.kind.Kind.TheVariants as kind
use Rattle.sms_text.specs.declared.kind.TextError.TheVariants as error
use Rattle.sms_text.specs.OuterLines as form
use Rattle.sms_text.specs.OuterLines.{is_script}
use Rattle.sms_text.specs.Parts.{wants}
use Rattle.sms_text.specs.Reading.{input}
use Rattle.sms_text.specs.Text.{Outer}
use Rattle.sms_text.proofs.Parts.{part_handed}
use Rattle.grow_form.specs.Script.{IsScriptLine}
use Rattle.grow_form.specs.Scripts.{SaysStep}
use Rattle.grow_form.proofs.ScriptReading.{step_missing, step_pauses, step_shown, step_unfit, words_room}
use Rattle.grow_form.proofs.scripts.read_step.Goals as goal

pub returns-in_err-line-clause-did : goal.returns-in_err-line-clause-did
returns-in_err-line-clause-did g c =
    let p = c.args.p.now in
    let old = input c.args.reader.now (g.S.Source.state c.args.source.now) in
    let new = input c.words.new.self (g.S.Source.state c.words.new.source) in
    part_handed (wants p (Outer (form.Script c.args.width) ∷ [])) (SaysStep p c.args.width) old new c.in_err-line.field-0.0 c.from_residual.result c.from_residual.ensures.1
    (step_missing p c.args.width old new c.requires.closed c.in_err-line.field-0.0 c.in_err-line.ensures.did)

pub returns-in-Ok-Some-clause-did : goal.returns-in-Ok-Some-clause-did
returns-in-Ok-Some-clause-did g c =
    step_shown c.args.p.now c.args.width (input c.args.reader.now (g.S.Source.state c.args.source.now)) (input c.words.new.self (g.S.Source.state c.words.new.source)) c.requires.closed
    c.in_ok-line.line c.in-Ok-Some.step c.in_ok-line.ensures.did c.in_ok-line.ensures.open (subst (λ r. MatchOption r (is_script c.args.p.now c.args.width c.in_ok-line.line.words ≡ false) (IsScriptLine c.args.p.now c.args.width c.in_ok-line.line.words)) c.in-Ok-Some.field-0-is c.in-Ok-Some.ensures.ok)

pub returns-in-Ok-Some-clause-shorter : goal.returns-in-Ok-Some-clause-shorter
returns-in-Ok-Some-clause-shorter g c =
    words_room c.args.p.now (form.Script c.args.width) (input c.args.reader.now (g.S.Source.state c.args.source.now)) (input c.words.new.self (g.S.Source.state c.words.new.source))
    c.in_ok-line.line c.in_ok-line.ensures.did (subst (λ r. MatchOption r (is_script c.args.p.now c.args.width c.in_ok-line.line.words ≡ false) (IsScriptLine c.args.p.now c.args.width c.in_ok-line.line.words)) c.in-Ok-Some.field-0-is c.in-Ok-Some.ensures.ok).test

pub returns-in-Ok-None-clause-did : goal.returns-in-Ok-None-clause-did
returns-in-Ok-None-clause-did g c =
    let is : c.refuse.result ≡ error.Bad c.in_ok-line.line.number kind.Script = c.refuse.ensures.value ∙ ap (λ n. error.Bad n kind.Script) c.number.ensures in
    step_unfit c.args.p.now c.args.width (input c.args.reader.now (g.S.Source.state c.args.source.now)) (input c.words.new.self (g.S.Source.state c.words.new.source)) c.requires.closed
    c.in_ok-line.line c.refuse.result c.refuse.new.self c.in_ok-line.ensures.did (subst (λ r. MatchOption r (is_script c.args.p.now c.args.width c.in_ok-line.line.words ≡ false) (IsScriptLine c.args.p.now c.args.width c.in_ok-line.line.words)) c.in-Ok-None.field-0-is c.in-Ok-None.ensures.ok) is
    (c.refuse.ensures.kept ∙ ap (λ e. record c.words.new.self { error = Some e; last = None }) (sym c.refuse.ensures.value))

pub returns-clause-did : goal.returns-clause-did
returns-clause-did g c =
    step_pauses c.args.p.now c.args.width (input c.args.reader.now (g.S.Source.state c.args.source.now)) (input c.words.new.self (g.S.Source.state c.words.new.source)) c.requires.closed
    c.in_ok-line.line c.in_ok-line.ensures.did c.in_ok-line.ensures.open c.in-Err.ensures.err
