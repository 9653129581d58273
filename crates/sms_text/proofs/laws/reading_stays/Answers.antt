use Rattle.sms_text.proofs.Told.{stays}
use Rattle.sms_text.proofs.laws.reading_stays.Goals as goal

pub returns : goal.returns
returns c = stays
