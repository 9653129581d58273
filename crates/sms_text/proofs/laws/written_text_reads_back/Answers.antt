use Rattle.sms_text.proofs.RoundTrip.{text_carries}
use Rattle.sms_text.proofs.WrittenValues.{items_matrix}
use Rattle.sms_text.proofs.laws.written_text_reads_back.Goals as goal

pub returns : goal.returns
returns c = λ p A fits is low narrow. (
  items_matrix p A is,
  λ ended room number dues rest long. (text_carries p A fits is low narrow ended dues).step room number rest long,
)
