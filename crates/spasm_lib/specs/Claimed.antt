-- What a certificate claims of a matrix besides its rank.
use Rattle.std.specs.Prelude.{ℕ, List, length}
use Rattle.residue_words.specs.Residues.{IsPrime}
use Rattle.residue_words.specs.Matrix.{Matrix}
use Rattle.residue_words.specs.declared.plain.Pair.{Pair}
use Rattle.row_space.specs.Factors.{AreFactors, Shows}
use Rattle.certificates.specs.declared.claim.Claim.{Claim}
use Rattle.certificates.specs.Certificate.{HasModulus, claim_of}
use Rattle.certificates.specs.CertificateText.{ClaimFitsText}

-- what is claimed of A can be written, and is shown to any factors of A
pub record IsClaimed (p : ℕ) (A : Matrix) (claim : Claim) : Type 0 where
  pub modulus : HasModulus p claim
  pub fits : ClaimFitsText (claim_of claim)
  pub shows : (pivots : List Pair) (L U : Matrix) → IsPrime p → AreFactors p A pivots L U →
      Shows p A (length pivots) U (claim_of claim)
