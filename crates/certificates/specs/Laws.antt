-- Laws of certificates as texts.
use Rattle.std.specs.Prelude.{◌≡◌, ◌≤◌, ◌<◌, ◌+◌, ◌-◌, ◌^◌, Bool, ℕ, List, [], ◌∷◌, ◌++◌, Some, length, map, codes}
use Rattle.std.specs.Fmt.{decimal}
use Rattle.residue_words.specs.declared.plain.Pair.{Pair}
use Rattle.residue_words.specs.Matrix.{IsMatrix}
use Rattle.row_space.specs.Factors as plain
use Rattle.sms_text.specs.Laws.{items_of}
use Rattle.sms_text.specs.Lines.{lines}
use Rattle.sms_text.specs.OuterLines as form
use Rattle.sms_text.specs.Reading.{with_items}
use Rattle.sms_text.specs.Text.{Due, Outer, Item, Words, matrices, outer_lines, read}
use Rattle.certificates.specs.CertificateText.{HasText, certificate_said, certificate_text, claim_word}

-- what the lines of the written text of a certificate say, one after another
abbrev pub title_words : plain.Certificate → List (List ℕ)
title_words c = codes "certificate" ∷ claim_word c.claim ∷ decimal c.modulus ∷ decimal (length c.pivots) ∷ []

abbrev pub pivot_words : Pair → List (List ℕ)
pivot_words q = decimal (q.row + 1) ∷ decimal (q.col + 1) ∷ []

abbrev pub claim_items : plain.Claim → List Item
claim_items plain.Claim.Rank = []
claim_items (plain.Claim.Rref E) = items_of E
claim_items (plain.Claim.Kernel K) = items_of K

abbrev pub certificate_items : plain.Certificate → List Item
certificate_items c = Words (title_words c)
    ∷ map (λ q. Words (pivot_words q)) c.pivots ++ items_of c.left ++ items_of c.right ++ claim_items c.claim

-- the matrices are of residues modulo p
abbrev pub ClaimIsModulo : ℕ → plain.Claim → Type 0
ClaimIsModulo p plain.Claim.Rank = Unit {0}
ClaimIsModulo p (plain.Claim.Rref E) = IsMatrix p E
ClaimIsModulo p (plain.Claim.Kernel K) = IsMatrix p K

pub record IsModulo (p : ℕ) (c : plain.Certificate) : Type 0 where
  pub left : IsMatrix p c.left
  pub right : IsMatrix p c.right
  pub claim : ClaimIsModulo p c.claim

-- The written text of a certificate reads, with the modulus of its matrices, as this certificate, whatever stands behind it and whichever
-- lines are due behind it; the lines behind it are read next, with the room that it leaves, and from the number of the line behind it on.
abbrev pub WrittenCertificateReadsBack : Type 0
WrittenCertificateReadsBack = (p : ℕ) (c : plain.Certificate) → p < 2 ^ 64 → IsModulo p c → HasText c →
    (certificate_said (outer_lines (certificate_items c)) (matrices p (certificate_items c)) ≡ Some c)
    × ((ended : Bool) (room number : ℕ) (dues : List Due) (rest : List ℕ) →
    length (certificate_text c) ≤ room →
    read p ended room number (Outer form.Certificate ∷ dues) (lines (certificate_text c ++ rest))
    ≡ with_items (certificate_items c) (read p ended (room - length (certificate_text c))
    (number + length (certificate_items c)) dues (lines rest)))
