-- By the kinds.
use Rattle.certificates.proofs.CertificateRead.{rank_claimed}
use Rattle.certificates.proofs.reading.read_claim.Goals as goal

pub returns-in-Rank-clause-did : goal.returns-in-Rank-clause-did
returns-in-Rank-clause-did g c = rank_claimed c.args.p.now c.args.kind _ c.in-Rank.is c.requires.sound c.requires.closed
