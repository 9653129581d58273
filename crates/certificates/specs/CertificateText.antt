-- Certificates as texts: what their lines say, and the one text that is written (this project's format).
use Rattle.std.specs.Prelude.{◌≡◌, ◌<◌, ◌≤◌, ◌-◌, if◌then◌else◌, ℕ, List, [], ◌∷◌, ◌++◌, Option, None, Some, All, length, map, slice_index_or, codes}
use Rattle.std.specs.Fmt.{decimal}
use Rattle.std.specs.Str.{bytes_eq}
use Rattle.residue_words.specs.declared.modulus.TheConstants.{MODULUS_BOUND}
use Rattle.residue_words.specs.declared.plain.Pair.{Pair}
use Rattle.residue_words.specs.Matrix.{Matrix}
use Rattle.row_space.specs.Factors as plain
use Rattle.sms_text.specs.declared.reader.TheConstants.{LARGEST_TEXT_SIZE}
use Rattle.sms_text.specs.Text.{Due, Item, matrices, number_at, outer_lines}
use Rattle.sms_text.specs.Written.{pair_lines, text_of}
use Rattle.certificates.specs.declared.cert_kind.CertKind.{CertKind}
use Rattle.certificates.specs.declared.cert_kind.CertKind.TheVariants.{Rank, Rref, Kernel}
use Rattle.certificates.specs.declared.certificate.Certificate.{Certificate}
use Rattle.certificates.specs.Certificate.{certificate_of, claim_kind}

-- the word of a kind, and that of a claim
abbrev pub kind_word : CertKind → List ℕ
kind_word Rank = codes "rank"
kind_word Rref = codes "rref"
kind_word Kernel = codes "kernel"

abbrev pub claim_word : plain.Claim → List ℕ
claim_word claim = kind_word (claim_kind claim)

-- the pivot of a line's words, which count from 1
abbrev pub pivot_of : List (List ℕ) → Pair
pivot_of ws = record { row = number_at ws 0 - 1; col = number_at ws 1 - 1 }

-- what is claimed by this word and the matrices behind the factors
abbrev pub claim_said : List ℕ → List Matrix → plain.Claim
claim_said word [] = plain.Claim.Rank
claim_said word (E ∷ more) = if bytes_eq word (kind_word Rref) then plain.Claim.Rref E else plain.Claim.Kernel E

-- the certificate that these lines of words and these matrices say
abbrev pub certificate_said : List (List (List ℕ)) → List Matrix → Option plain.Certificate
certificate_said (title ∷ pivots) (L ∷ U ∷ extra) = Some (record {
  modulus = number_at title 2;
  pivots = map pivot_of pivots;
  left = L;
  right = U;
  claim = claim_said (slice_index_or title 1 []) extra;
})
certificate_said _ _ = None

-- these items, whichever follow, have these lines of words and these matrices
pub record HasLines (p : ℕ) (items : List Item) (lines : List (List (List ℕ)))
    (values : List Matrix) : Type 0 where
  pub words : (more : List Item) → outer_lines (items ++ more) ≡ lines ++ outer_lines more
  pub matrices : (more : List Item) → matrices p (items ++ more) ≡ values ++ matrices p more

-- a whole certificate, whose plain value is the one of this certificate
pub record SaysCertificate (p : ℕ) (c : Certificate) (items : List Item) (due : List Due) : Type 0 where
  pub whole : due ≡ []
  pub lines : List (List (List ℕ))
  pub values : List Matrix
  pub has : HasLines p items lines values
  pub said : certificate_said lines values ≡ Some (certificate_of c)

-- `certificate K P R`
abbrev pub title_line : List ℕ → ℕ → ℕ → List ℕ
title_line word p r = codes "certificate " ++ word ++ 32 ∷ decimal p ++ 32 ∷ decimal r ++ 10 ∷ []

abbrev pub claim_text : plain.Claim → List ℕ
claim_text plain.Claim.Rank = []
claim_text (plain.Claim.Rref E) = text_of E
claim_text (plain.Claim.Kernel K) = text_of K

-- the first line, a line for each pivot, the factors, and the matrix that is claimed
abbrev pub certificate_text : plain.Certificate → List ℕ
certificate_text c = title_line (claim_word c.claim) c.modulus (length c.pivots)
    ++ pair_lines c.pivots
    ++ text_of c.left ++ text_of c.right ++ claim_text c.claim

-- a matrix of sizes that a text can give
abbrev pub FitsText : Matrix → Type 0
FitsText A = (A.height ≤ LARGEST_TEXT_SIZE) × (A.width ≤ LARGEST_TEXT_SIZE)

abbrev pub ClaimFitsText : plain.Claim → Type 0
ClaimFitsText plain.Claim.Rank = Unit {0}
ClaimFitsText (plain.Claim.Rref E) = FitsText E
ClaimFitsText (plain.Claim.Kernel K) = FitsText K

abbrev pub IsTextPlace : Pair → Type 0
IsTextPlace q = (q.row < LARGEST_TEXT_SIZE) × (q.col < LARGEST_TEXT_SIZE)

-- the numbers and the sizes of a certificate are those that a text can give
pub record HasText (c : plain.Certificate) : Type 0 where
  pub modulus : c.modulus < MODULUS_BOUND
  pub count : length c.pivots ≤ LARGEST_TEXT_SIZE
  pub pivots : All IsTextPlace c.pivots
  pub left : FitsText c.left
  pub right : FitsText c.right
  pub claim : ClaimFitsText c.claim
