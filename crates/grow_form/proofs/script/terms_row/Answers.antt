use Rattle.std.proofs.Common.{◌≡◌, ◌+◌, ◌<◌, ◌≤◌, false, [], length, slice_index_or, subst, arith}
use Rattle.sms_text.specs.OuterLines.{IsUpTo, is_up_to}
use Rattle.grow_form.proofs.ScriptTerms.{terms_begin, terms_column_zero, terms_end, terms_go, terms_no_column, terms_no_value, terms_odd}
use Rattle.grow_form.proofs.script.terms_row.Goals as goal

pub loop-k-init : goal.loop-k-init
loop-k-init c = terms_begin c.args.p.now c.args.width c.args.line.now.words c.in_ok-builder.builder c.requires.some c.in_ok-builder.ensures

pub returns-then-count-k-eq1 : goal.returns-then-count-k-eq1
returns-then-count-k-eq1 c =
    let one : length c.args.line.now.words ≡ c.loop-k.k + 1 = omega (arith, c.if-count-k-eq1.true, c.count-in-loop-k.ensures) in
    terms_odd c.args.p.now c.args.width c.args.line.now.words c.loop-k.k c.loop-k.invariant.test one

pub returns-in_default : goal.returns-in_default
returns-in_default c =
    let two : c.loop-k.k + 1 < length c.args.line.now.words = omega (arith, c.if-count-k-eq1.false, c.loop-k-test.true, c.count-in-loop-k.ensures, c.count.ensures) in
    terms_no_column c.args.p.now c.args.width c.args.line.now.words c.loop-k.k c.loop-k.invariant.test two (subst (λ m. is_up_to m (slice_index_or c.args.line.now.words c.loop-k.k []) ≡ false) c.from.ensures c.in_default.ensures)

pub returns-then-column-eq0 : goal.returns-then-column-eq0
returns-then-column-eq0 c =
    let two : c.loop-k.k + 1 < length c.args.line.now.words = omega (arith, c.if-count-k-eq1.false, c.loop-k-test.true, c.count-in-loop-k.ensures, c.count.ensures) in
    terms_column_zero c.args.p.now c.args.width c.args.line.now.words c.loop-k.k c.loop-k.invariant.test two c.in-Some.column (subst (λ m. IsUpTo m (slice_index_or c.args.line.now.words c.loop-k.k []) c.in-Some.column) c.from.ensures c.in-Some.ensures) c.if-column-eq0.true

pub returns-in_default-value : goal.returns-in_default-value
returns-in_default-value c =
    let two : c.loop-k.k + 1 < length c.args.line.now.words = omega (arith, c.if-count-k-eq1.false, c.loop-k-test.true, c.count-in-loop-k.ensures, c.count.ensures) in
    terms_no_value c.args.p.now c.args.width c.args.line.now.words c.loop-k.k c.loop-k.invariant.test two c.in_default-value.ensures

pub loop-k-preserved : goal.loop-k-preserved
loop-k-preserved c =
    let two : c.loop-k.k + 1 < length c.args.line.now.words = omega (arith, c.if-count-k-eq1.false, c.loop-k-test.true, c.count-in-loop-k.ensures, c.count.ensures) in
    terms_go c.args.p.now c.args.width c.args.line.now.words c.loop-k.k c.loop-k.builder c.loop-k.invariant two c.in-Some.column c.in-Some-value.value c.push.new.self
    (subst (λ m. IsUpTo m (slice_index_or c.args.line.now.words c.loop-k.k []) c.in-Some.column) c.from.ensures c.in-Some.ensures) c.if-column-eq0.false c.in-Some-value.ensures c.in_ok-push.ensures.ok

pub returns : goal.returns
returns c =
    let all : length c.args.line.now.words ≤ c.loop-k.k = omega (arith, c.loop-k-test.false, c.count.ensures) in
    terms_end c.args.p.now c.args.width c.args.line.now.words c.loop-k.k c.loop-k.builder c.loop-k.invariant all c.in_ok-finish.field-0 c.in_ok-finish.ensures.modulus c.in_ok-finish.ensures.matrix
