-- The written text of a certificate reads as this certificate.
use Rattle.std.proofs.Common.{ℕ, ◌≡◌, ◌+◌, ◌-◌, ◌^◌, ◌<◌, Bool, true, List, [], ◌∷◌, ◌++◌, length, map, Some, refl, sym, ap, ◌∙◌, subst, arith, append_assoc, append-nil}
use Rattle.std.specs.Prelude.{All, codes}
use Rattle.std.specs.Fmt.{decimal}
use Rattle.residue_words.specs.declared.modulus.TheConstants.{MODULUS_BOUND}
use Rattle.residue_words.specs.declared.plain.Pair.{Pair}
use Rattle.residue_words.specs.Matrix.{Matrix, IsMatrix}
use Rattle.row_space.specs.Factors as plain
use Rattle.sms_text.specs.declared.reader.TheConstants.{LARGEST_TEXT_SIZE}
use Rattle.sms_text.specs.Laws.{items_of}
use Rattle.sms_text.specs.OuterLines.{Pivot, is_certificate, is_kind_word, is_pivot}
use Rattle.sms_text.specs.OuterLines as form
use Rattle.sms_text.specs.Text.{Due, Header, Outer, Item, Words, due_behind, matrices, number_at, outer_lines, pivot_lines, texts_of_kind}
use Rattle.sms_text.specs.Written.{pair_line, pair_lines}
use Rattle.sms_text.proofs.CountedLines.{counted_carry, given_again, items_of_words}
use Rattle.sms_text.proofs.Parts.{outer_says}
use Rattle.sms_text.proofs.RoundTrip.{text_carries}
use Rattle.sms_text.proofs.WrittenLines.{Carries, IsWord, carries_append, carries_nothing, carries_words, spaced}
use Rattle.sms_text.proofs.WrittenNumbers.{decimal_spells, from_one, up_to}
use Rattle.sms_text.proofs.WrittenValues.{items_matrix_then, items_no_words}
use Rattle.certificates.specs.declared.cert_kind.CertKind.{CertKind}
use Rattle.certificates.specs.declared.cert_kind.CertKind.TheVariants.{Rank, Rref, Kernel}
use Rattle.certificates.specs.Certificate.{claim_kind}
use Rattle.certificates.specs.CertificateParts.{claim_due, claim_values}
use Rattle.certificates.specs.CertificateText.{ClaimFitsText, HasLines, HasText, IsTextPlace, certificate_said, certificate_text, claim_said, claim_text, claim_word, kind_word, pivot_of, title_line}
use Rattle.certificates.specs.Laws.{ClaimIsModulo, IsModulo, WrittenCertificateReadsBack, certificate_items, claim_items, pivot_words, title_words}
use Rattle.certificates.proofs.CertificateLines.{claim_again, have_more, texts_due, words_have}

kind_word_is : (kind : CertKind) → is_kind_word (kind_word kind) ≡ true
kind_word_is Rank = refl
kind_word_is Rref = refl
kind_word_is Kernel = refl

kind_word_written : (kind : CertKind) → IsWord (kind_word kind)
kind_word_written Rank = record { above = (omega arith, (omega arith, (omega arith, (omega arith, tt)))); filled = refl }
kind_word_written Rref = record { above = (omega arith, (omega arith, (omega arith, (omega arith, tt)))); filled = refl }
kind_word_written Kernel = record { above = (omega arith, (omega arith, (omega arith, (omega arith, (omega arith, (omega arith, tt)))))); filled = refl }

first_word_written : IsWord (codes "certificate")
first_word_written = record {
  above = (omega arith, (omega arith, (omega arith, (omega arith, (omega arith, (omega arith, (omega arith, (omega arith, (omega arith, (omega arith, (omega arith, tt)))))))))));
  filled = refl;
}

-- the first line
title_spaced : (word : List ℕ) (p r : ℕ) → title_line word p r ≡ spaced (codes "certificate") (word ∷ decimal p ∷ decimal r ∷ []) ++ 10 ∷ []
title_spaced word p r = simp append_assoc

title_fits : (c : plain.Certificate) → HasText c → is_certificate (title_words c) ≡ true
title_fits c has =
    rw (
      kind_word_is (claim_kind c.claim),
      up_to (MODULUS_BOUND - 1) c.modulus _ (decimal_spells c.modulus (omega (arith, has.modulus))) (omega (arith, has.modulus)),
      up_to LARGEST_TEXT_SIZE (length c.pivots) _ (decimal_spells (length c.pivots) (omega (arith, has.count))) has.count,
    ) refl

title_carries : (p : ℕ) (c : plain.Certificate) → HasText c → (ended : Bool) (dues : List Due) →
    Carries p ended (Outer form.Certificate ∷ dues) (pivot_lines (length c.pivots) ++ (Header ∷ Header ∷ (claim_due (claim_kind c.claim) ++ dues))) (title_line (claim_word c.claim) c.modulus (length c.pivots)) (Words (title_words c) ∷ [])
title_carries p c has ended dues =
    let r = length c.pivots in
    let modulus = decimal_spells c.modulus (omega (arith, has.modulus)) in
    let rank = decimal_spells r (omega (arith, has.count)) in
    let due : due_behind form.Certificate (title_words c) ++ dues ≡ pivot_lines r ++ (Header ∷ Header ∷ (claim_due (claim_kind c.claim) ++ dues)) =
    ap (λ n. (pivot_lines n ++ texts_of_kind (claim_word c.claim)) ++ dues) rank.spelled
    ∙ ap (λ d. (pivot_lines r ++ d) ++ dues) (texts_due (claim_kind c.claim))
    ∙ append_assoc (pivot_lines r) (Header ∷ Header ∷ claim_due (claim_kind c.claim)) dues in
    let P : List Due → Type 0 = λ d. Carries p ended (Outer form.Certificate ∷ dues) d (title_line (claim_word c.claim) c.modulus r) (Words (title_words c) ∷ []) in
    subst P due (carries_words p ended (Outer form.Certificate) dues (title_line (claim_word c.claim) c.modulus r) (codes "certificate") (claim_word c.claim ∷ decimal c.modulus ∷ decimal r ∷ [])
    (record { item = Words (title_words c); due = due_behind form.Certificate (title_words c) }) (title_spaced (claim_word c.claim) c.modulus r)
    first_word_written (kind_word_written (claim_kind c.claim), (modulus.word, (rank.word, tt))) refl (outer_says p form.Certificate (title_words c) (title_fits c has)))

-- the lines of the pivots
abbrev pivot_items : List Pair → List Item
pivot_items qs = map (λ q. Words (pivot_words q)) qs

pair_spaced : (i j : ℕ) → pair_line i j ≡ spaced (decimal i) (decimal j ∷ []) ++ 10 ∷ []
pair_spaced i j = simp append_assoc

one_carries : (p : ℕ) (ended : Bool) (dues : List Due) (q : Pair) (n : ℕ) → IsTextPlace q →
    Carries p ended (Outer (Pivot n) ∷ dues) (pivot_lines n ++ dues) (pair_line (q.row + 1) (q.col + 1)) (Words (pivot_words q) ∷ [])
one_carries p ended dues q n here =
    let row = decimal_spells (q.row + 1) (omega (arith, here.0)) in
    let col = decimal_spells (q.col + 1) (omega (arith, here.1)) in
    let fits : is_pivot (pivot_words q) ≡ true = rw (from_one LARGEST_TEXT_SIZE q.row _ row here.0, from_one LARGEST_TEXT_SIZE q.col _ col here.1) refl in
    carries_words p ended (Outer (Pivot n)) dues (pair_line (q.row + 1) (q.col + 1)) (decimal (q.row + 1)) (decimal (q.col + 1) ∷ [])
    (record { item = Words (pivot_words q); due = pivot_lines n }) (pair_spaced (q.row + 1) (q.col + 1)) row.word (col.word, tt) row.unmarked (outer_says p (Pivot n) (pivot_words q) fits)

pivots_carry : (p : ℕ) (qs : List Pair) → All IsTextPlace qs → (ended : Bool) (dues : List Due) → Carries p ended (pivot_lines (length qs) ++ dues) dues (pair_lines qs) (pivot_items qs)
pivots_carry p qs small ended dues =
    counted_carry Pivot (λ (q : Pair). pair_line (q.row + 1) (q.col + 1)) pivot_words IsTextPlace p ended dues (one_carries p ended dues) qs small

-- the matrix that is claimed
claim_carries : (p : ℕ) (claim : plain.Claim) → p < 2 ^ 64 → ClaimIsModulo p claim → ClaimFitsText claim → (ended : Bool) (dues : List Due) →
    Carries p ended (claim_due (claim_kind claim) ++ dues) dues (claim_text claim) (claim_items claim)
claim_carries p plain.Claim.Rank small is fits ended dues = carries_nothing p ended dues
claim_carries p (plain.Claim.Rref E) small is fits ended dues = text_carries p E small is fits.0 fits.1 ended dues
claim_carries p (plain.Claim.Kernel K) small is fits ended dues = text_carries p K small is fits.0 fits.1 ended dues

certificate_carries : (p : ℕ) (c : plain.Certificate) → p < 2 ^ 64 → IsModulo p c → HasText c → (ended : Bool) (dues : List Due) →
    Carries p ended (Outer form.Certificate ∷ dues) dues (certificate_text c) (certificate_items c)
certificate_carries p c small is has ended dues =
    let last = claim_due (claim_kind c.claim) ++ dues in
    let title = title_carries p c has ended dues in
    let pivots = pivots_carry p c.pivots has.pivots ended (Header ∷ Header ∷ last) in
    let left = text_carries p c.left small is.left has.left.0 has.left.1 ended (Header ∷ last) in
    let right = text_carries p c.right small is.right has.right.0 has.right.1 ended last in
    carries_append p ended _ _ _ _ _ _ _ (carries_append p ended _ _ _ _ _ _ _ (carries_append p ended _ _ _ _ _ _ _ (carries_append p ended _ _ _ _ _ _ _ title pivots) left) right)
    (claim_carries p c.claim small is.claim has.claim ended dues)

-- what the lines give
one_again : (q : Pair) → IsTextPlace q → pivot_of (pivot_words q) ≡ q
one_again q here =
    let row = (decimal_spells (q.row + 1) (omega (arith, here.0))).spelled in
    let col = (decimal_spells (q.col + 1) (omega (arith, here.1))).spelled in
    let same_row : number_at (pivot_words q) 0 - 1 ≡ q.row = omega (arith, row) in
    let same_col : number_at (pivot_words q) 1 - 1 ≡ q.col = omega (arith, col) in
    ap (λ r. made r (number_at (pivot_words q) 1 - 1)) same_row ∙ ap (made q.row) same_col
  where
    made : ℕ → ℕ → Pair
    made r c = record { row = r; col = c }

pivots_again : (qs : List Pair) → All IsTextPlace qs → map pivot_of (map pivot_words qs) ≡ qs
pivots_again qs small = given_again pivot_of pivot_words IsTextPlace one_again qs small

matrix_has : (p : ℕ) (A : Matrix) → IsMatrix p A → HasLines p (items_of A) [] (A ∷ [])
matrix_has p A is = record { words = λ more. items_no_words p A more; matrices = λ more. items_matrix_then p A more is }

claim_has : (p : ℕ) (claim : plain.Claim) → ClaimIsModulo p claim → HasLines p (claim_items claim) [] (claim_values claim)
claim_has p plain.Claim.Rank is = words_have p []
claim_has p (plain.Claim.Rref E) is = matrix_has p E is
claim_has p (plain.Claim.Kernel K) is = matrix_has p K is

abbrev all_lines : plain.Certificate → List (List (List ℕ))
all_lines c = title_words c ∷ map pivot_words c.pivots

abbrev all_values : plain.Certificate → List Matrix
all_values c = c.left ∷ c.right ∷ claim_values c.claim

certificate_has : (p : ℕ) (c : plain.Certificate) → IsModulo p c → HasLines p (certificate_items c) (all_lines c) (all_values c)
certificate_has p c is =
    let first : HasLines p (Words (title_words c) ∷ pivot_items c.pivots) (all_lines c) [] =
    subst (λ l. HasLines p (Words (title_words c) ∷ l) (all_lines c) []) (sym (items_of_words pivot_words c.pivots)) (words_have p (all_lines c)) in
    let left = have_more p (Words (title_words c) ∷ pivot_items c.pivots) (items_of c.left) (all_lines c) [] (c.left ∷ []) first (matrix_has p c.left is.left) in
    let right = have_more p _ (items_of c.right) (all_lines c) (c.left ∷ []) (c.right ∷ []) left (matrix_has p c.right is.right) in
    have_more p _ (claim_items c.claim) (all_lines c) (c.left ∷ c.right ∷ []) (claim_values c.claim) right (claim_has p c.claim is.claim)

said_again : (c : plain.Certificate) → HasText c → certificate_said (all_lines c) (all_values c) ≡ Some c
said_again c has =
    let modulus = (decimal_spells c.modulus (omega (arith, has.modulus))).spelled in
    ap (λ n. Some (made n (map pivot_of (map pivot_words c.pivots)) (claim_said (claim_word c.claim) (claim_values c.claim)))) modulus
    ∙ ap (λ qs. Some (made c.modulus qs (claim_said (claim_word c.claim) (claim_values c.claim)))) (pivots_again c.pivots has.pivots)
    ∙ ap (λ k. Some (made c.modulus c.pivots k)) (claim_again c.claim)
  where
    made : ℕ → List Pair → plain.Claim → plain.Certificate
    made n qs claim = record { modulus = n; pivots = qs; left = c.left; right = c.right; claim = claim }

pub reads_back : WrittenCertificateReadsBack
reads_back p c small is has =
    let h = certificate_has p c is in
    let lines_are : outer_lines (certificate_items c) ≡ all_lines c = ap outer_lines (sym (append-nil (certificate_items c))) ∙ h.words [] ∙ append-nil (all_lines c) in
    let values_are : matrices p (certificate_items c) ≡ all_values c = ap (matrices p) (sym (append-nil (certificate_items c))) ∙ h.matrices [] ∙ append-nil (all_values c) in (
      ap (λ l. certificate_said l (matrices p (certificate_items c))) lines_are ∙ ap (certificate_said (all_lines c)) values_are ∙ said_again c has,
      λ ended room number dues rest fits. (certificate_carries p c small is has ended dues).step room number rest fits,
    )
