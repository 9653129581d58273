-- Line by line.
use Rattle.std.proofs.Common.{arith, Err, Ok, refl, subst}
use Rattle.sms_text.specs.Parts.{PartDid}
use Rattle.sms_text.specs.Reading.{input}
use Rattle.sms_text.proofs.Parts.{part_handed}
use Rattle.grow_form.specs.Scripts.{SaysScript, SaysStep}
use Rattle.grow_form.proofs.ScriptAnswers.{a_script, answering_begins, answering_ends, answering_fits, answering_goes, answering_pauses, answering_stops, script_pauses, step_for}
use Rattle.grow_form.proofs.scripts.answer_script.Goals as goal

pub returns-in_default-clause-did : goal.returns-in_default-clause-did
returns-in_default-clause-did g c =
    script_pauses c.args.a.now (λ answers. SaysScript c.args.a.now answers.items) (input c.args.reader.now (g.S.Source.state c.args.source.now)) c.requires.sound c.requires.closed

pub loop-answers-init : goal.loop-answers-init
loop-answers-init g c = record {
  modulus = c.modulus-p.ensures.value;
  closed = c.requires.closed;
  is = answering_begins c.args.a.now (input c.args.reader.now (g.S.Source.state c.args.source.now)) c.in-Ok.grow c.new-answers.result.items c.requires.sound c.requires.closed
      (omega (arith, c.modulus-p.ensures.two_or_more, c.modulus-p.ensures.value)) c.modulus-p.ensures.sound c.in-Ok.ensures c.new-answers.ensures.items;
}

pub add_answer-requires : goal.add_answer-requires
add_answer-requires g c =
    let A = c.args.a.now in
    let old = input c.args.reader.now (g.S.Source.state c.args.source.now) in
    let mid = input c.loop-answers.reader (g.S.Source.state c.loop-answers.source) in
    let new = input c.read_step.new.reader (g.S.Source.state c.read_step.new.source) in
    answering_fits A c.loop-answers.grow c.loop-answers.answers.items old mid new c.loop-answers.invariant.is c.in_ok-step.step
    (step_for A c.modulus-p.result c.width.result mid new (Ok c.in_ok-step.step) c.modulus-p.ensures.value c.width.ensures.value c.in_ok-step.ensures.did)

pub loop-answers-preserved : goal.loop-answers-preserved
loop-answers-preserved g c =
    let A = c.args.a.now in
    let old = input c.args.reader.now (g.S.Source.state c.args.source.now) in
    let mid = input c.loop-answers.reader (g.S.Source.state c.loop-answers.source) in
    let new = input c.read_step.new.reader (g.S.Source.state c.read_step.new.source) in
    record {
      modulus = c.modulus-p.ensures.value;
      closed = c.read_step.ensures.closed;
      is = answering_goes A c.loop-answers.grow c.loop-answers.answers.items old mid new c.loop-answers.invariant.is c.in_ok-step.step c.add_answer.new.grow c.add_answer.new.answers.items c.requires.width
          (step_for A c.modulus-p.result c.width.result mid new (Ok c.in_ok-step.step) c.modulus-p.ensures.value c.width.ensures.value c.in_ok-step.ensures.did) c.in_default-step.not-End c.in-Ok-add_answer.ensures;
    }

pub returns-in_err-step-clause-did : goal.returns-in_err-step-clause-did
returns-in_err-step-clause-did g c =
    let A = c.args.a.now in
    let old = input c.args.reader.now (g.S.Source.state c.args.source.now) in
    let mid = input c.loop-answers.reader (g.S.Source.state c.loop-answers.source) in
    let new = input c.read_step.new.reader (g.S.Source.state c.read_step.new.source) in
    let e = c.in_err-step.field-0.0 in
    part_handed (a_script A) (λ answers. SaysScript A answers.items) old new e c.from_residual.result c.from_residual.ensures.1
    (answering_stops A c.loop-answers.grow c.loop-answers.answers.items old mid new c.loop-answers.invariant.is (λ answers. SaysScript A answers.items) e
    (step_for A c.modulus-p.result c.width.result mid new (Err e) c.modulus-p.ensures.value c.width.ensures.value c.in_err-step.ensures.did))

pub returns-in-End-clause-did : goal.returns-in-End-clause-did
returns-in-End-clause-did g c =
    let A = c.args.a.now in
    let old = input c.args.reader.now (g.S.Source.state c.args.source.now) in
    let mid = input c.loop-answers.reader (g.S.Source.state c.loop-answers.source) in
    let new = input c.read_step.new.reader (g.S.Source.state c.read_step.new.source) in
    answering_ends A c.loop-answers.grow c.loop-answers.answers.items old mid new c.loop-answers.invariant.is (λ answers. answers.items) c.loop-answers.answers
    (subst (λ s. PartDid (a_script A) (SaysStep A.modulus A.matrix.width) mid new (Ok s)) c.in-End.is
    (step_for A c.modulus-p.result c.width.result mid new (Ok c.in_ok-step.step) c.modulus-p.ensures.value c.width.ensures.value c.in_ok-step.ensures.did)) refl

pub returns-in_default-add_answer : goal.returns-in_default-add_answer
returns-in_default-add_answer g c =
    let A = c.args.a.now in
    let old = input c.args.reader.now (g.S.Source.state c.args.source.now) in
    let mid = input c.loop-answers.reader (g.S.Source.state c.loop-answers.source) in
    let new = input c.read_step.new.reader (g.S.Source.state c.read_step.new.source) in
    record {
      did = answering_pauses A c.loop-answers.grow c.loop-answers.answers.items old mid new c.loop-answers.invariant.is (λ answers. SaysScript A answers.items) c.in_ok-step.step
          (step_for A c.modulus-p.result c.width.result mid new (Ok c.in_ok-step.step) c.modulus-p.ensures.value c.width.ensures.value c.in_ok-step.ensures.did);
      fits = tt;
      closed = c.read_step.ensures.closed;
    }
