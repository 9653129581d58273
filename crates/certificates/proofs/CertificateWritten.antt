-- The text of a certificate, piece by piece.
use Rattle.std.proofs.Common.{ℕ, ◌≡◌, List, [], ◌∷◌, ◌++◌, length, arith, append_assoc}
use Rattle.std.specs.Prelude.{codes, All}
use Rattle.std.specs.Fmt.{decimal}
use Rattle.std.proofs.lemmas.List.Elements.{All-weaker}
use Rattle.residue_words.specs.declared.plain.Pair.{Pair}
use Rattle.sms_text.specs.Written.{IsSmallPlace, pair_line, pair_lines, text_of}
use Rattle.certificates.specs.declared.certificate.Certificate.{Certificate}
use Rattle.certificates.specs.Certificate.{certificate_of, claim_of}
use Rattle.certificates.specs.CertificateText.{IsTextPlace, certificate_text, claim_text, claim_word, title_line}

-- the first line: its first word, the word of the kind, and the two numbers
pub title_cut : (word : List ℕ) (p r : ℕ) → title_line word p r ≡ codes "certificate " ++ (word ++ (32 ∷ pair_line p r))
title_cut word p r = regrouped (codes "certificate ") word (decimal p) (decimal r)
  where
    regrouped : (a b c d : List ℕ) → a ++ b ++ 32 ∷ c ++ 32 ∷ d ++ 10 ∷ [] ≡ a ++ (b ++ (32 ∷ (c ++ 32 ∷ d ++ 10 ∷ [])))
    regrouped a b c d = simp append_assoc

-- what stands behind it
abbrev pub behind_title : Certificate → List ℕ
behind_title c = pair_lines c.pivots ++ (text_of c.l.matrix ++ (text_of c.u.matrix ++ claim_text (claim_of c.claim)))

abbrev pub title_of : Certificate → List ℕ
title_of c = title_line (claim_word (claim_of c.claim)) c.p (length c.pivots)

nested : (a b c d e : List ℕ) → a ++ b ++ c ++ d ++ e ≡ a ++ (b ++ (c ++ (d ++ e)))
nested a b c d e = simp append_assoc

pub text_cut : (c : Certificate) → certificate_text (certificate_of c) ≡ title_of c ++ behind_title c
text_cut c = nested (title_of c) (pair_lines c.pivots) (text_of c.l.matrix) (text_of c.u.matrix) (claim_text (claim_of c.claim))

-- places that a text can give can be written
pub small_places : (qs : List Pair) → All IsTextPlace qs → All IsSmallPlace qs
small_places qs h = All-weaker IsTextPlace IsSmallPlace (λ q is. (omega (arith, is.0), omega (arith, is.1))) qs h
