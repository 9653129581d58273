use Rattle.std.proofs.Common.{refl, arith, ◌∙◌}
use Rattle.sms_text.proofs.SixDigits.{at_most_twenty, last_put, length_six, six_put, some_digits}
use Rattle.sms_text.proofs.six_digits.put_number.Goals as goal

pub loop-left-init : goal.loop-left-init
loop-left-init c = record {
  room = omega (arith, at_most_twenty c.args.n c.ranges.n.fits);
  within = omega arith;
  place = refl;
  written = refl;
}

pub overflow_sub-at : goal.overflow_sub-at
overflow_sub-at c = omega (arith, length_six c.loop-left.left c.loop-left-test.true c.loop-left.auto.left-fits.fits)

pub loop-left-preserved : goal.loop-left-preserved
loop-left-preserved c =
    let l = c.loop-left in
    let longer = length_six l.left c.loop-left-test.true l.auto.left-fits.fits in record {
      room = omega (arith, longer);
      within = omega (arith, l.invariant.within);
      place = omega (arith, longer, l.invariant.place, l.invariant.room);
      written = six_put l.left l.at _ _ c.loop-left-test.true l.auto.left-fits.fits (omega (arith, longer)) c.put_six.ensures ∙ l.invariant.written;
    }

pub overflow_sub-at-2 : goal.overflow_sub-at-2
overflow_sub-at-2 c = omega (arith, some_digits c.loop-left.left (omega arith), c.loop-left.invariant.room)

pub returns-clause-written : goal.returns-clause-written
returns-clause-written c =
    let l = c.loop-left in
    rw c.digit_count.ensures
    (last_put l.left l.at _ _ (omega arith) (omega (arith, some_digits l.left (omega arith), l.invariant.room)) c.put_six-2.ensures ∙ l.invariant.written)
