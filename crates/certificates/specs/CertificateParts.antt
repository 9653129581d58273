-- The parts of a certificate's text that are read one after another.
use Rattle.std.specs.Prelude.{◌≡◌, ◌<◌, ◌≤◌, true, ℕ, List, [], ◌∷◌, slice_index_or}
use Rattle.residue_words.specs.declared.modulus.TheConstants.{MODULUS_BOUND}
use Rattle.residue_words.specs.Matrix.{Matrix}
use Rattle.row_space.specs.Factors as plain
use Rattle.sms_text.specs.declared.reader.TheConstants.{LARGEST_TEXT_SIZE}
use Rattle.sms_text.specs.OuterLines as form
use Rattle.sms_text.specs.OuterLines.{is_certificate}
use Rattle.sms_text.specs.Text.{Due, Header, Item, Words, due_behind, number_at}
use Rattle.certificates.specs.declared.cert_kind.CertKind.{CertKind}
use Rattle.certificates.specs.declared.cert_kind.CertKind.TheVariants.{Rank, Rref, Kernel}
use Rattle.certificates.specs.declared.certificate_title.CertificateTitle.{CertificateTitle}
use Rattle.certificates.specs.declared.claim.Claim.{Claim}
use Rattle.certificates.specs.Certificate.{HasModulus, claim_kind, claim_of}
use Rattle.certificates.specs.CertificateText.{HasLines, kind_word}

-- these words are a first line that says this
pub record IsCertificateTitle (ws : List (List ℕ)) (t : CertificateTitle) : Type 0 where
  pub form : is_certificate ws ≡ true
  pub kind : slice_index_or ws 1 [] ≡ kind_word t.kind
  pub modulus : number_at ws 2 ≡ t.p
  pub rank : number_at ws 3 ≡ t.rank
  pub modulus_below : t.p < MODULUS_BOUND
  pub rank_small : t.rank ≤ LARGEST_TEXT_SIZE

-- the first line was read, and what it makes due is due
pub record SaysCertificateTitle (t : CertificateTitle) (items : List Item) (due : List Due) : Type 0 where
  pub words : List (List ℕ)
  pub items_are : items ≡ Words words ∷ []
  pub due_are : due ≡ due_behind form.Certificate words
  pub title : IsCertificateTitle words t

-- the texts behind the factors; the matrices that they are
abbrev pub claim_due : CertKind → List Due
claim_due Rank = []
claim_due Rref = Header ∷ []
claim_due Kernel = Header ∷ []

abbrev pub claim_values : plain.Claim → List Matrix
claim_values plain.Claim.Rank = []
claim_values (plain.Claim.Rref E) = E ∷ []
claim_values (plain.Claim.Kernel K) = K ∷ []

-- a whole claim of this kind
pub record SaysClaim (p : ℕ) (kind : CertKind) (claim : Claim) (items : List Item) (due : List Due)
    : Type 0 where
  pub whole : due ≡ []
  pub has : HasLines p items [] (claim_values (claim_of claim))
  pub of_kind : claim_kind (claim_of claim) ≡ kind
  pub modulus : HasModulus p claim
