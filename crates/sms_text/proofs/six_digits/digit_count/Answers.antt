use Rattle.sms_text.proofs.SixDigits.{count_is}
use Rattle.sms_text.proofs.six_digits.digit_count.Goals as goal

pub returns : goal.returns
returns c = count_is c.args.n c.requires
