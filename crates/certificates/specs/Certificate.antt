-- What a certificate in memory stands for.
use Rattle.std.specs.Prelude.{◌≡◌, ℕ}
use Rattle.row_space.specs.Factors as plain
use Rattle.certificates.specs.declared.cert_kind.CertKind.{CertKind}
use Rattle.certificates.specs.declared.cert_kind.CertKind.TheVariants as kind
use Rattle.certificates.specs.declared.certificate.Certificate.{Certificate}
use Rattle.certificates.specs.declared.claim.Claim.{Claim}
use Rattle.certificates.specs.declared.claim.Claim.TheVariants.{Rank, Rref, Kernel}

-- the plain claim; its kind
abbrev pub claim_of : Claim → plain.Claim
claim_of Rank = plain.Claim.Rank
claim_of (Rref E) = plain.Claim.Rref E.matrix
claim_of (Kernel K) = plain.Claim.Kernel K.matrix

abbrev pub claim_kind : plain.Claim → CertKind
claim_kind plain.Claim.Rank = kind.Rank
claim_kind (plain.Claim.Rref E) = kind.Rref
claim_kind (plain.Claim.Kernel K) = kind.Kernel

-- the plain certificate
abbrev pub certificate_of : Certificate → plain.Certificate
certificate_of c = record {
  modulus = c.p;
  pivots = c.pivots;
  left = c.l.matrix;
  right = c.u.matrix;
  claim = claim_of c.claim;
}

-- the matrix that is claimed, if one is, is of residues modulo p
abbrev pub HasModulus : ℕ → Claim → Type 0
HasModulus p Rank = Unit {0}
HasModulus p (Rref E) = E.modulus ≡ p
HasModulus p (Kernel K) = K.modulus ≡ p

-- all its matrices are of residues modulo p
pub record AreModulo (p : ℕ) (c : Certificate) : Type 0 where
  pub left : c.l.modulus ≡ p
  pub right : c.u.modulus ≡ p
  pub claim : HasModulus p c.claim
