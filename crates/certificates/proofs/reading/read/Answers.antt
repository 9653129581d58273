-- Part by part.
use Rattle.std.proofs.Common.{arith, ◌∷◌, [], refl}
use Rattle.sms_text.specs.OuterLines as form
use Rattle.sms_text.specs.Reading.{input}
use Rattle.sms_text.specs.Text.{Header, Outer}
use Rattle.sms_text.proofs.Parts.{first_missed, part_handed}
use Rattle.certificates.specs.CertificateParts.{SaysCertificateTitle, claim_due}
use Rattle.certificates.specs.CertificateText.{SaysCertificate}
use Rattle.certificates.proofs.CertificateLines.{claim_closed}
use Rattle.certificates.proofs.CertificateRead.{a_certificate, title_read, pivots_read, pivots_unread, matrix_read, matrix_unread, claim_missed, claim_modulus, certificate_read, matrix_modulus}
use Rattle.certificates.proofs.reading.read.Goals as goal

pub returns-in_err-title-clause-did : goal.returns-in_err-title-clause-did
returns-in_err-title-clause-did g c =
    let p = c.args.p.now in
    let s0 = input c.args.reader.now (g.S.Source.state c.args.source.now) in
    let s1 = input c.read_title.new.reader (g.S.Source.state c.read_title.new.source) in
    part_handed (a_certificate p) (SaysCertificate p) s0 s1 c.in_err-title.field-0.0 c.from_residual.result c.from_residual.ensures.1
    (first_missed p (Outer form.Certificate ∷ []) [] SaysCertificateTitle (SaysCertificate p) s0 s1 c.in_err-title.field-0.0 c.requires refl (c.in_err-title.ensures.did p))

pub read_pivots-requires-clause-sound : goal.read_pivots-requires-clause-sound
read_pivots-requires-clause-sound g c =
    let p = c.args.p.now in
    let s0 = input c.args.reader.now (g.S.Source.state c.args.source.now) in
    let s1 = input c.read_title.new.reader (g.S.Source.state c.read_title.new.source) in
    let t = c.in_ok-title.title in
    let title = title_read p t s0 s1 (c.in_ok-title.ensures.did p) in
    title.so_far.stands.sound

pub returns-in_err-pivots-clause-did : goal.returns-in_err-pivots-clause-did
returns-in_err-pivots-clause-did g c =
    let p = c.args.p.now in
    let s0 = input c.args.reader.now (g.S.Source.state c.args.source.now) in
    let s1 = input c.read_title.new.reader (g.S.Source.state c.read_title.new.source) in
    let s2 = input c.read_pivots.new.reader (g.S.Source.state c.read_pivots.new.source) in
    let t = c.in_ok-title.title in
    let title = title_read p t s0 s1 (c.in_ok-title.ensures.did p) in
    part_handed (a_certificate p) (SaysCertificate p) s0 s2 c.in_err-pivots.field-0.0 c.from_residual-in_err-pivots.result c.from_residual-in_err-pivots.ensures.1
    (pivots_unread p t c.in_err-pivots.field-0.0 s0 s1 s2 title (c.in_err-pivots.ensures.did p))

pub returns-in_err-l-clause-did : goal.returns-in_err-l-clause-did
returns-in_err-l-clause-did g c =
    let p = c.args.p.now in
    let s0 = input c.args.reader.now (g.S.Source.state c.args.source.now) in
    let s1 = input c.read_title.new.reader (g.S.Source.state c.read_title.new.source) in
    let s2 = input c.read_pivots.new.reader (g.S.Source.state c.read_pivots.new.source) in
    let s3 = input c.read_rows.new.reader (g.S.Source.state c.read_rows.new.source) in
    let t = c.in_ok-title.title in
    let title = title_read p t s0 s1 (c.in_ok-title.ensures.did p) in
    let qs = c.in_ok-pivots.pivots in
    let pivots = pivots_read p t qs s0 s1 s2 title (c.in_ok-pivots.ensures.did p) in
    part_handed (a_certificate p) (SaysCertificate p) s0 s3 c.in_err-l.field-0.0 c.from_residual-in_err-l.result c.from_residual-in_err-l.ensures.1
    (matrix_unread p t qs [] (Header ∷ claim_due t.kind) s0 s2 s3 c.in_err-l.field-0.0 refl pivots c.in_err-l.ensures.did)

pub returns-in_err-u-clause-did : goal.returns-in_err-u-clause-did
returns-in_err-u-clause-did g c =
    let p = c.args.p.now in
    let s0 = input c.args.reader.now (g.S.Source.state c.args.source.now) in
    let s1 = input c.read_title.new.reader (g.S.Source.state c.read_title.new.source) in
    let s2 = input c.read_pivots.new.reader (g.S.Source.state c.read_pivots.new.source) in
    let s3 = input c.read_rows.new.reader (g.S.Source.state c.read_rows.new.source) in
    let s4 = input c.read_rows-2.new.reader (g.S.Source.state c.read_rows-2.new.source) in
    let t = c.in_ok-title.title in
    let title = title_read p t s0 s1 (c.in_ok-title.ensures.did p) in
    let qs = c.in_ok-pivots.pivots in
    let pivots = pivots_read p t qs s0 s1 s2 title (c.in_ok-pivots.ensures.did p) in
    let L = c.in_ok-l.l in
    let left = matrix_read p t qs [] (Header ∷ claim_due t.kind) s0 s2 s3 L refl pivots c.in_ok-l.ensures.did in
    part_handed (a_certificate p) (SaysCertificate p) s0 s4 c.in_err-u.field-0.0 c.from_residual-in_err-u.result c.from_residual-in_err-u.ensures.1
    (matrix_unread p t qs (L.matrix ∷ []) (claim_due t.kind) s0 s3 s4 c.in_err-u.field-0.0 (claim_closed t.kind) left c.in_err-u.ensures.did)

pub returns-in_err-claim-clause-did : goal.returns-in_err-claim-clause-did
returns-in_err-claim-clause-did g c =
    let p = c.args.p.now in
    let s0 = input c.args.reader.now (g.S.Source.state c.args.source.now) in
    let s1 = input c.read_title.new.reader (g.S.Source.state c.read_title.new.source) in
    let s2 = input c.read_pivots.new.reader (g.S.Source.state c.read_pivots.new.source) in
    let s3 = input c.read_rows.new.reader (g.S.Source.state c.read_rows.new.source) in
    let s4 = input c.read_rows-2.new.reader (g.S.Source.state c.read_rows-2.new.source) in
    let s5 = input c.read_claim.new.reader (g.S.Source.state c.read_claim.new.source) in
    let t = c.in_ok-title.title in
    let title = title_read p t s0 s1 (c.in_ok-title.ensures.did p) in
    let qs = c.in_ok-pivots.pivots in
    let pivots = pivots_read p t qs s0 s1 s2 title (c.in_ok-pivots.ensures.did p) in
    let L = c.in_ok-l.l in
    let left = matrix_read p t qs [] (Header ∷ claim_due t.kind) s0 s2 s3 L refl pivots c.in_ok-l.ensures.did in
    let U = c.in_ok-u.u in
    let right = matrix_read p t qs (L.matrix ∷ []) (claim_due t.kind) s0 s3 s4 U (claim_closed t.kind) left c.in_ok-u.ensures.did in
    part_handed (a_certificate p) (SaysCertificate p) s0 s5 c.in_err-claim.field-0.0 c.from_residual-in_err-claim.result c.from_residual-in_err-claim.ensures.1
    (claim_missed p t qs (L.matrix ∷ U.matrix ∷ []) s0 s4 s5 c.in_err-claim.field-0.0 right c.in_err-claim.ensures.did)

pub returns-clause-did : goal.returns-clause-did
returns-clause-did g c =
    let p = c.args.p.now in
    let s0 = input c.args.reader.now (g.S.Source.state c.args.source.now) in
    let s1 = input c.read_title.new.reader (g.S.Source.state c.read_title.new.source) in
    let s2 = input c.read_pivots.new.reader (g.S.Source.state c.read_pivots.new.source) in
    let s3 = input c.read_rows.new.reader (g.S.Source.state c.read_rows.new.source) in
    let s4 = input c.read_rows-2.new.reader (g.S.Source.state c.read_rows-2.new.source) in
    let s5 = input c.read_claim.new.reader (g.S.Source.state c.read_claim.new.source) in
    let t = c.in_ok-title.title in
    let title = title_read p t s0 s1 (c.in_ok-title.ensures.did p) in
    let qs = c.in_ok-pivots.pivots in
    let pivots = pivots_read p t qs s0 s1 s2 title (c.in_ok-pivots.ensures.did p) in
    let L = c.in_ok-l.l in
    let left = matrix_read p t qs [] (Header ∷ claim_due t.kind) s0 s2 s3 L refl pivots c.in_ok-l.ensures.did in
    let U = c.in_ok-u.u in
    let right = matrix_read p t qs (L.matrix ∷ []) (claim_due t.kind) s0 s3 s4 U (claim_closed t.kind) left c.in_ok-u.ensures.did in
    certificate_read p t qs L U c.in_ok-claim.claim _ s0 s4 s5 refl right c.in_ok-claim.ensures.did

pub returns-clause-modulus : goal.returns-clause-modulus
returns-clause-modulus g c =
    let p = c.args.p.now in
    let s0 = input c.args.reader.now (g.S.Source.state c.args.source.now) in
    let s1 = input c.read_title.new.reader (g.S.Source.state c.read_title.new.source) in
    let s2 = input c.read_pivots.new.reader (g.S.Source.state c.read_pivots.new.source) in
    let s3 = input c.read_rows.new.reader (g.S.Source.state c.read_rows.new.source) in
    let s4 = input c.read_rows-2.new.reader (g.S.Source.state c.read_rows-2.new.source) in
    let s5 = input c.read_claim.new.reader (g.S.Source.state c.read_claim.new.source) in
    let t = c.in_ok-title.title in
    let title = title_read p t s0 s1 (c.in_ok-title.ensures.did p) in
    let qs = c.in_ok-pivots.pivots in
    let pivots = pivots_read p t qs s0 s1 s2 title (c.in_ok-pivots.ensures.did p) in
    let L = c.in_ok-l.l in
    let left = matrix_read p t qs [] (Header ∷ claim_due t.kind) s0 s2 s3 L refl pivots c.in_ok-l.ensures.did in
    let U = c.in_ok-u.u in
    let right = matrix_read p t qs (L.matrix ∷ []) (claim_due t.kind) s0 s3 s4 U (claim_closed t.kind) left c.in_ok-u.ensures.did in
    record {
      left = matrix_modulus p s2 s3 L pivots.so_far.stands.sound c.in_ok-l.ensures.did;
      right = matrix_modulus p s3 s4 U left.so_far.stands.sound c.in_ok-u.ensures.did;
      claim = claim_modulus p t.kind c.in_ok-claim.claim s4 s5 right.so_far.stands.sound c.in_ok-claim.ensures.did;
    }

pub returns-clause-fits : goal.returns-clause-fits
returns-clause-fits g c =
    let size = c.in_ok-title.ensures.sizes in
    let l = c.in_ok-l.ensures in
    let u = c.in_ok-u.ensures in
    record {
      modulus = size.0;
      count = omega (arith, size.1, c.in_ok-pivots.ensures.count);
      pivots = c.in_ok-pivots.ensures.places;
      left = (l.height, l.width);
      right = (u.height, u.width);
      claim = c.in_ok-claim.ensures.fits;
    }
