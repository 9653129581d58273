use Rattle.sms_text.proofs.Told.{told}
use Rattle.sms_text.proofs.laws.whole_input_is_told.Goals as goal

pub returns : goal.returns
returns c = told
