-- The lines of words and the matrices that items have.
use Rattle.std.proofs.Common.{ℕ, ◌≡◌, List, [], ◌∷◌, ◌++◌, map, None, refl, sym, ap, ◌∙◌, append_assoc}
use Rattle.residue_words.specs.Matrix.{Matrix}
use Rattle.row_space.specs.Factors as plain
use Rattle.sparse_rows.specs.Rows.{ResidueMatrix}
use Rattle.sms_text.specs.Parts.{open_at}
use Rattle.sms_text.specs.ReadingRows.{SaysRows}
use Rattle.sms_text.specs.Text.{Header, Item, Words, texts_of_kind, matrices, outer_lines}
use Rattle.certificates.specs.declared.cert_kind.CertKind.{CertKind}
use Rattle.certificates.specs.declared.cert_kind.CertKind.TheVariants.{Rank, Rref, Kernel}
use Rattle.certificates.specs.CertificateText.{HasLines, claim_said, claim_word, kind_word}
use Rattle.certificates.specs.CertificateParts.{claim_due, claim_values}

-- lines of words alone
pub words_have : (p : ℕ) (lines : List (List (List ℕ))) → HasLines p (map Words lines) lines []
words_have p [] = record { words = λ more. refl; matrices = λ more. refl }
words_have p (ws ∷ lines) =
    let rest = words_have p lines in
    record { words = λ more. ap (λ l. ws ∷ l) (rest.words more); matrices = λ more. rest.matrices more }

-- a text has one matrix
pub rows_have : (p : ℕ) (A : ResidueMatrix) (items : List Item) → SaysRows p A items [] → HasLines p items [] (A.matrix ∷ [])
rows_have p A items is = record { words = is.inside; matrices = is.matrix }

-- items with matrices behind others
pub have_more : (p : ℕ) (items more : List Item) (lines : List (List (List ℕ))) (values others : List Matrix) → HasLines p items lines values → HasLines p more [] others → HasLines p (items ++ more) lines (values ++ others)
have_more p items more lines values others first next = record {
  words = λ rest. ap outer_lines (append_assoc items more rest) ∙ first.words (more ++ rest) ∙ ap (λ l. lines ++ l) (next.words rest);
  matrices = λ rest. ap (matrices p) (append_assoc items more rest) ∙ first.matrices (more ++ rest) ∙ ap (λ l. values ++ l) (next.matrices rest) ∙ sym (append_assoc values others (matrices p rest));
}

-- the texts that a kind makes due
pub texts_due : (kind : CertKind) → texts_of_kind (kind_word kind) ≡ Header ∷ Header ∷ claim_due kind
texts_due Rank = refl
texts_due Rref = refl
texts_due Kernel = refl

pub claim_closed : (kind : CertKind) → open_at (claim_due kind) ≡ None
claim_closed Rank = refl
claim_closed Rref = refl
claim_closed Kernel = refl

-- what is claimed, by its word and its matrix
pub claim_again : (claim : plain.Claim) → claim_said (claim_word claim) (claim_values claim) ≡ claim
claim_again plain.Claim.Rank = refl
claim_again (plain.Claim.Rref E) = refl
claim_again (plain.Claim.Kernel K) = refl
