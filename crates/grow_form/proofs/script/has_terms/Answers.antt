use Rattle.std.proofs.Common.{◌≡◌, ◌∙◌, ◌+◌, ◌<◌, ◌≤◌, false, [], length, slice_index_or, ap, not, subst, sym, arith}
use Rattle.sms_text.specs.OuterLines.{IsUpTo, is_up_to}
use Rattle.grow_form.proofs.ScriptTerms.{terms_all, terms_column_zero, terms_no_column, terms_no_value, terms_odd, test_begins, test_goes, value_missing}
use Rattle.grow_form.proofs.script.has_terms.Goals.{then-column-eq0-via-then-column-eq0, then-column-eq0-via-else-column-eq0+then-is_none}
use Rattle.grow_form.proofs.script.has_terms.Goals as goal

pub loop-k-init : goal.loop-k-init
loop-k-init c = test_begins c.args.p.now c.args.width c.args.line.now.words c.requires.some

pub returns-then-count-k-eq1 : goal.returns-then-count-k-eq1
returns-then-count-k-eq1 c =
    let one : length c.args.line.now.words ≡ c.loop-k.k + 1 = omega (arith, c.if-count-k-eq1.true, c.count-in-loop-k.ensures) in
    sym (terms_odd c.args.p.now c.args.width c.args.line.now.words c.loop-k.k c.loop-k.invariant one)

pub returns-in_default : goal.returns-in_default
returns-in_default c =
    let two : c.loop-k.k + 1 < length c.args.line.now.words = omega (arith, c.if-count-k-eq1.false, c.loop-k-test.true, c.count-in-loop-k.ensures, c.count.ensures) in
    sym (terms_no_column c.args.p.now c.args.width c.args.line.now.words c.loop-k.k c.loop-k.invariant two (subst (λ m. is_up_to m (slice_index_or c.args.line.now.words c.loop-k.k []) ≡ false) c.from.ensures c.in_default.ensures))

pub returns-then-column-eq0 : goal.returns-then-column-eq0
returns-then-column-eq0 c =
    let ws = c.args.line.now.words in
    let two : c.loop-k.k + 1 < length ws = omega (arith, c.if-count-k-eq1.false, c.loop-k-test.true, c.count-in-loop-k.ensures, c.count.ensures) in
    elim c.then-column-eq0.branch [
      | then-column-eq0-via-then-column-eq0 w ↦
          sym (terms_column_zero c.args.p.now c.args.width ws c.loop-k.k c.loop-k.invariant two c.in-Some.column (subst (λ m. IsUpTo m (slice_index_or ws c.loop-k.k []) c.in-Some.column) c.from.ensures c.in-Some.ensures) w.if-column-eq0.true)
      | then-column-eq0-via-else-column-eq0+then-is_none w ↦
          sym (terms_no_value c.args.p.now c.args.width ws c.loop-k.k c.loop-k.invariant two (value_missing c.args.p.now (slice_index_or ws (c.loop-k.k + 1) []) w.value.result w.value.ensures (w.is_none.ensures ∙ ap not w.if-is_none.true)))
    ]

pub loop-k-preserved : goal.loop-k-preserved
loop-k-preserved c =
    let ws = c.args.line.now.words in
    let two : c.loop-k.k + 1 < length ws = omega (arith, c.if-count-k-eq1.false, c.loop-k-test.true, c.count-in-loop-k.ensures, c.count.ensures) in
    test_goes c.args.p.now c.args.width ws c.loop-k.k c.loop-k.invariant two c.in-Some.column c.value.result
    (subst (λ m. IsUpTo m (slice_index_or ws c.loop-k.k []) c.in-Some.column) c.from.ensures c.in-Some.ensures) c.if-column-eq0.false c.value.ensures (c.is_none.ensures ∙ ap not c.if-is_none.false)

pub returns : goal.returns
returns c =
    let all : length c.args.line.now.words ≤ c.loop-k.k = omega (arith, c.loop-k-test.false, c.count.ensures) in
    terms_all c.args.p.now c.args.width c.args.line.now.words c.loop-k.k c.loop-k.invariant all
