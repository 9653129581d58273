use Rattle.certificates.proofs.WrittenCertificates.{reads_back}
use Rattle.certificates.proofs.laws.written_certificate_reads_back.Goals as goal

pub returns : goal.returns
returns c = reads_back
