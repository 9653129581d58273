use Rattle.std.proofs.Common.{◌≡◌, ◌+◌, ◌-◌, ◌*◌, true, slice_index, sym, ◌∙◌, arith}
use Rattle.sms_text.specs.Numbers.{is_digit}
use Rattle.sms_text.proofs.PlainLines.{digits_on}
use Rattle.sms_text.proofs.reader.plain.longer_run.Goals as goal

pub loop-end-preserved : goal.loop-end-preserved
loop-end-preserved c =
    let end = c.loop-end.end in
    let number = c.loop-end.number in
    let b = slice_index c.args.bytes.now end in
    let digit : is_digit b ≡ true = sym c.is_digit.ensures ∙ c.if-is_digit.true in
    let next : 10 * number + c.from.result ≡ 10 * number + (b - 48) = grind arith in
    record {
      digits = digits_on c.args.bytes.now c.args.at end number (10 * number + c.from.result) c.loop-end.invariant.digits c.loop-end-test.true digit next;
      some = omega (arith, c.loop-end.invariant.some);
    }
