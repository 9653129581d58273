-- Text by text.
use Rattle.std.proofs.Common.{◌≡◌, ◌<◌, ◌++◌, [], ◌∷◌, length, ap, refl, length-append, arith, rules}
use Rattle.std.proofs.lemmas.Result.{err_from_is_err_and}
use Rattle.sms_text.specs.Reading.{input}
use Rattle.spasm_run.proofs.Input.{read_nothing}
use Rattle.batch_solve.proofs.BatchReading.{texts_begin, texts_between, texts_end, texts_go, texts_missed, texts_pause}
use Rattle.batch_solve.proofs.batch_texts.read_texts.Goals as goal

pub returns-in_default-clause-did : goal.returns-in_default-clause-did
returns-in_default-clause-did g c = read_nothing _ _

pub loop-init : goal.loop-init
loop-init g c =
    let none : c.new-texts.result.items ≡ [] = search rules in (
      texts_begin c.args.p.now c.args.limit c.args.count c.in-Ok.reader (g.S.Source.state c.args.source.now) c.in-Ok.ensures c.new-texts.result.items none,
      ap length none,
    )

pub read_rows-requires : goal.read_rows-requires
read_rows-requires g c =
    texts_between c.args.p.now c.args.limit c.args.count c.in-Ok.reader (g.S.Source.state c.args.source.now) c.in-Ok.ensures c.loop.texts.items (input c.loop.reader (g.S.Source.state c.loop.source)) c.loop.invariant.0

pub returns-in_err-text-clause-did : goal.returns-in_err-text-clause-did
returns-in_err-text-clause-did g c =
    let fault = err_from_is_err_and c.from_residual.result c.from_residual.ensures.1 in
    let less : length c.loop.texts.items < c.args.count = omega (arith, c.loop.invariant.1, c.loop-test.true) in
    rw (fault.1, fault.2) (texts_missed c.args.p.now c.args.limit c.args.count c.in-Ok.reader (g.S.Source.state c.args.source.now) c.in-Ok.ensures c.loop.texts.items
    (input c.loop.reader (g.S.Source.state c.loop.source)) c.loop.invariant.0 _ less _ c.in_err-text.ensures.did)

pub returns-then-is_err-clause-did : goal.returns-then-is_err-clause-did
returns-then-is_err-clause-did g c =
    let less : length c.loop.texts.items < c.args.count = omega (arith, c.loop.invariant.1, c.loop-test.true) in
    let text = c.in_ok-text in
    let has = texts_go c.args.p.now c.args.limit c.args.count c.in-Ok.reader (g.S.Source.state c.args.source.now) c.in-Ok.ensures c.loop.texts.items
    (input c.loop.reader (g.S.Source.state c.loop.source)) c.loop.invariant.0 _ less text.text (c.loop.texts.items ++ text.text ∷ []) text.ensures.did text.ensures.height text.ensures.width refl in
    texts_pause c.args.p.now c.args.limit c.args.count c.in-Ok.reader (g.S.Source.state c.args.source.now) c.in-Ok.ensures (c.loop.texts.items ++ text.text ∷ []) _ has

pub loop-preserved : goal.loop-preserved
loop-preserved g c =
    let less : length c.loop.texts.items < c.args.count = omega (arith, c.loop.invariant.1, c.loop-test.true) in
    let text = c.in_ok-text in
    let more : c.push.new.self.items ≡ c.loop.texts.items ++ text.text ∷ [] = search rules in (
      texts_go c.args.p.now c.args.limit c.args.count c.in-Ok.reader (g.S.Source.state c.args.source.now) c.in-Ok.ensures c.loop.texts.items
          (input c.loop.reader (g.S.Source.state c.loop.source)) c.loop.invariant.0 _ less text.text c.push.new.self.items text.ensures.did text.ensures.height text.ensures.width more,
      omega (arith, ap length more, length-append c.loop.texts.items (text.text ∷ []), c.loop.invariant.1),
    )

pub returns-clause-did : goal.returns-clause-did
returns-clause-did g c =
    let whole : length c.loop.texts.items ≡ c.args.count = let a = c.loop-test.false in let b = c.loop.auto.counter-end in omega (arith, a, b, c.loop.invariant.1) in
    texts_end c.args.p.now c.args.limit c.args.count c.in-Ok.reader (g.S.Source.state c.args.source.now) c.in-Ok.ensures c.loop.texts.items (input c.loop.reader (g.S.Source.state c.loop.source)) c.loop.invariant.0 whole

pub returns-clause-count : goal.returns-clause-count
returns-clause-count g c = let a = c.loop-test.false in let b = c.loop.auto.counter-end in omega (arith, a, b, c.loop.invariant.1)

pub returns-clause-texts : goal.returns-clause-texts
returns-clause-texts g c = c.loop.invariant.0.of_text
