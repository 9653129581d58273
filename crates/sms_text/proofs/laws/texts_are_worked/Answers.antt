use Rattle.std.proofs.Common.{refl}
use Rattle.sms_text.proofs.laws.texts_are_worked.Goals as goal

pub returns : goal.returns
returns c = record {
  certificate = refl;
  other_kind = refl;
  few_words = refl;
  large_modulus = refl;
  large_rank = refl;
  zero_row = refl;
  no_factor = refl;
  trace = refl;
  short_step = refl;
  no_step = refl;
  script = refl;
  wide_column = refl;
  zero_divisor = refl;
  no_end = refl;
}
