use Rattle.std.proofs.Common.{◌≡◌, ◌+◌, ◌-◌, ◌*◌, ◌^◌, ◌<◌, true, slice_index, length, pow-suc, add-one, sym, ap, ◌∙◌, arith}
use Rattle.sms_text.specs.Numbers.{is_digit}
use Rattle.sms_text.proofs.Digits.{digit_bounds}
use Rattle.sms_text.proofs.PlainLines.{digits_on, run_ended}
use Rattle.sms_text.proofs.reader.plain.digit_run.Goals as goal

pub loop-k-preserved : goal.loop-k-preserved
loop-k-preserved c =
    let k = c.loop-k.k in
    let number = c.loop-k.number in
    let b = slice_index c.args.bytes.now (c.args.at + k) in
    let digit : is_digit b ≡ true = sym c.is_digit.ensures ∙ c.if-not-is_digit.false in
    let bounds = digit_bounds b digit in
    let next : 10 * number + c.from.result ≡ 10 * number + (b - 48) = grind arith in
    let inside : c.args.at + k < length c.args.bytes.now = omega (arith, c.loop-k-test.true, c.if-bytes-at-le-SHORT.false) in
    let tens : 10 ^ (k + 1) ≡ 10 ^ k * 10 = ap (λ n. 10 ^ n) (add-one k) ∙ pow-suc 10 k in
    let on = digits_on c.args.bytes.now c.args.at (c.args.at + k) number (10 * number + c.from.result) c.loop-k.invariant.digits inside digit next in
    let same : c.args.at + k + 1 ≡ c.args.at + (k + 1) = omega arith in
    record {
      digits = rw (sym same) on;
      small = omega (arith, tens, next, bounds.1, c.loop-k.invariant.small);
    }

pub returns-then-not-is_digit : goal.returns-then-not-is_digit
returns-then-not-is_digit c = run_ended c.args.bytes.now c.args.at (c.args.at + c.loop-k.k) c.loop-k.number c.ended_run.result c.loop-k.invariant.digits c.ended_run.ensures
