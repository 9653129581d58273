-- From a certificate to the answer.
use Rattle.std.proofs.Common.{◌≡◌, [], ◌∷◌, refl}
use Rattle.residue_words.specs.Residues.{IsPrime}
use Rattle.row_space.specs.Factors.{IsValid}
use Rattle.sparse_rows.specs.Rows.{ResidueMatrix}
use Rattle.pluq_factor.specs.Staged.{Staged}
use Rattle.certificates.specs.declared.certificate.Certificate.{Certificate}
use Rattle.certificates.specs.declared.cert_kind.CertKind.{CertKind}
use Rattle.certificates.specs.Certificate.{AreModulo, certificate_of, claim_kind, claim_of}
use Rattle.certificates.specs.CertificateText.{HasText}
use Rattle.spasm_run.specs.declared.command_answer.CommandAnswer.TheVariants as answer
use Rattle.spasm_words.specs.declared.command.Command.{Command}
use Rattle.spasm_words.specs.declared.command.Task.TheVariants as task
use Rattle.spasm_run.specs.Computed.{IsAnswerTo, asking}
use Rattle.spasm_run.specs.Contents.{matrices_alone}

pub certificate_answers : (c : Command) (k : CertKind) (A : ResidueMatrix) (s : Certificate) → claim_kind (claim_of s.claim) ≡ k → AreModulo A.modulus s → HasText (certificate_of s) →
    (IsPrime A.modulus → IsValid A.modulus A.matrix (certificate_of s)) → (IsPrime A.modulus → Staged A.modulus A.matrix c.workers c.rounds s.pivots) →
    IsAnswerTo (asking (task.Certify k) A.modulus c) (matrices_alone (A.matrix ∷ [])) (answer.Certificate s)
certificate_answers c k A s same modulus text valid staged = record {
  small = text;
  fits = refl;
  shape = (s, same, modulus, text, refl);
  ends = refl;
  answers = λ prime. (certificate_of s, same, valid prime, staged prime, refl);
}
