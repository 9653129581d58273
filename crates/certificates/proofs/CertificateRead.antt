-- A certificate read part by part.
use Rattle.std.proofs.Common.{ℕ, ◌≡◌, List, [], ◌∷◌, ◌++◌, map, None, Some, Ok, Err, refl, sym, ap, ◌∙◌, subst, append-nil}
use Rattle.std.specs.Prelude.{slice_index_or}
use Rattle.residue_words.specs.declared.plain.Pair.{Pair}
use Rattle.residue_words.specs.Matrix.{Matrix}
use Rattle.row_space.specs.Factors as plain
use Rattle.sparse_rows.specs.Rows.{ResidueMatrix}
use Rattle.sms_text.specs.declared.kind.TextError.{TextError}
use Rattle.sms_text.specs.OuterLines.{Pivot}
use Rattle.sms_text.specs.OuterLines as form
use Rattle.sms_text.specs.Parts.{PartDid, SaysLines, Wanted, open_at, wants}
use Rattle.sms_text.specs.Reading.{InputState}
use Rattle.sms_text.specs.ReadingRows.{RowsDid, SaysRows}
use Rattle.sms_text.specs.Text.{Due, Header, Outer, Item, Words, due_behind, number_at, pivot_lines, texts_of_kind}
use Rattle.sms_text.proofs.CountedLines.{counted_closed}
use Rattle.sms_text.proofs.Parts.{ReadSoFar, first_missed, part_missed, part_reads, part_sound, part_taken, so_far_begins, so_far_ends}
use Rattle.sms_text.proofs.ReadingMatrices.{rows_missed, rows_taken}
use Rattle.certificates.specs.declared.cert_kind.CertKind.{CertKind}
use Rattle.certificates.specs.declared.cert_kind.CertKind.TheVariants.{Rank, Rref, Kernel}
use Rattle.certificates.specs.declared.certificate.Certificate.{Certificate}
use Rattle.certificates.specs.declared.certificate_title.CertificateTitle.{CertificateTitle}
use Rattle.certificates.specs.declared.claim.Claim.{Claim}
use Rattle.certificates.specs.declared.claim.Claim.TheVariants as claim
use Rattle.certificates.specs.Certificate.{HasModulus, claim_of}
use Rattle.certificates.specs.CertificateText.{HasLines, SaysCertificate, claim_said, kind_word, pivot_of}
use Rattle.certificates.specs.CertificateParts.{IsCertificateTitle, SaysCertificateTitle, SaysClaim, claim_due, claim_values}
use Rattle.certificates.proofs.CertificateLines.{claim_again, have_more, rows_have, texts_due, words_have}

-- what is wanted is a certificate
abbrev pub a_certificate : ℕ → Wanted
a_certificate p = wants p (Outer form.Certificate ∷ [])

-- no text is open behind the first line
pub title_closed : (ws : List (List ℕ)) (t : CertificateTitle) → IsCertificateTitle ws t → open_at (due_behind form.Certificate ws) ≡ None
title_closed ws t is =
    ap (λ w. open_at (pivot_lines (number_at ws 3) ++ texts_of_kind w)) is.kind ∙ ap (λ d. open_at (pivot_lines (number_at ws 3) ++ d)) (texts_due t.kind)
    ∙ counted_closed Pivot (number_at ws 3) (Header ∷ Header ∷ claim_due t.kind) refl

-- the first line was read
pub record TitleRead (p : ℕ) (t : CertificateTitle) (old new : InputState) : Type 0 where
  pub words : List (List ℕ)
  pub title : IsCertificateTitle words t
  pub so_far : ReadSoFar (a_certificate p) old new (Words words ∷ []) (pivot_lines t.rank ++ Header ∷ Header ∷ claim_due t.kind)

pub title_read : (p : ℕ) (t : CertificateTitle) (old new : InputState) → PartDid (a_certificate p) SaysCertificateTitle old new (Ok t) → TitleRead p t old new
title_read p t old new did =
    let sound = part_sound (a_certificate p) SaysCertificateTitle old new t did in
    let r = part_reads (a_certificate p) SaysCertificateTitle old new (Ok t) sound did in
    let m = r.reads.means in
    let s : ReadSoFar (a_certificate p) old new r.reads.items r.reads.due = record { begun = sound; taken = r.taken; draws = r.draws; stands = r.reads.stands } in
    let due : r.reads.due ≡ pivot_lines t.rank ++ Header ∷ Header ∷ claim_due t.kind =
    m.due_are ∙ ap (λ n. pivot_lines n ++ texts_of_kind (slice_index_or m.words 1 [])) m.title.rank
    ∙ ap (λ w. pivot_lines t.rank ++ texts_of_kind w) m.title.kind ∙ ap (λ d. pivot_lines t.rank ++ d) (texts_due t.kind) in
    let P : List Item → Type 0 = λ i. ReadSoFar (a_certificate p) old new i r.reads.due in
    let Q : List Due → Type 0 = λ d. ReadSoFar (a_certificate p) old new (Words m.words ∷ []) d in
    record { words = m.words; title = m.title; so_far = subst Q due (subst P m.items_are s) }

-- so much of a certificate was read: its first line, its pivots, and these matrices
pub record MatricesRead (p : ℕ) (t : CertificateTitle) (pivots : List Pair) (values : List Matrix) (due : List Due) (old new : InputState) : Type 0 where
  pub words : List (List ℕ)
  pub title : IsCertificateTitle words t
  pub lines : List (List (List ℕ))
  pub pivots_are : pivots ≡ map pivot_of lines
  pub items : List Item
  pub so_far : ReadSoFar (a_certificate p) old new items due
  pub has : HasLines p items (words ∷ lines) values

-- the pivots were read behind it, or not
pub pivots_read : (p : ℕ) (t : CertificateTitle) (pivots : List Pair) (old mid new : InputState) → TitleRead p t old mid → PartDid (wants p (pivot_lines t.rank)) (SaysLines pivot_of) mid new (Ok pivots) →
    MatricesRead p t pivots [] (Header ∷ Header ∷ claim_due t.kind) old new
pivots_read p t pivots old mid new s did =
    let rest : List Due = Header ∷ Header ∷ claim_due t.kind in
    let r = part_reads (wants p (pivot_lines t.rank)) (SaysLines pivot_of) mid new (Ok pivots) s.so_far.stands.sound did in
    let m = r.reads.means in
    let so_far = part_taken (a_certificate p) (pivot_lines t.rank) rest (SaysLines pivot_of) old mid new (Words s.words ∷ []) s.so_far refl pivots r in
    let P : List Item → Type 0 = λ i. ReadSoFar (a_certificate p) old new (Words s.words ∷ i) (r.reads.due ++ rest) in
    let Q : List Due → Type 0 = λ d. ReadSoFar (a_certificate p) old new (Words s.words ∷ map Words m.lines) (d ++ rest) in
    record {
      words = s.words;
      title = s.title;
      lines = m.lines;
      pivots_are = m.list_is;
      items = Words s.words ∷ map Words m.lines;
      so_far = subst Q m.whole (subst P m.items_are so_far);
      has = words_have p (s.words ∷ m.lines);
    }

pub pivots_unread : (p : ℕ) (t : CertificateTitle) (e : TextError) (old mid new : InputState) → TitleRead p t old mid → PartDid (wants p (pivot_lines t.rank)) (SaysLines pivot_of) mid new (Err e) →
    PartDid (a_certificate p) (SaysCertificate p) old new (Err e)
pivots_unread p t e old mid new s did =
    part_missed (a_certificate p) (pivot_lines t.rank) (Header ∷ Header ∷ claim_due t.kind) (SaysLines pivot_of) old mid new (Words s.words ∷ []) s.so_far refl (SaysCertificate p) e did

-- a matrix was read behind it, or not
pub matrix_read : (p : ℕ) (t : CertificateTitle) (pivots : List Pair) (values : List Matrix) (due : List Due) (old mid new : InputState) (A : ResidueMatrix) → open_at due ≡ None →
    MatricesRead p t pivots values (Header ∷ due) old mid → RowsDid p mid new (Ok A) → MatricesRead p t pivots (values ++ A.matrix ∷ []) due old new
matrix_read p t pivots values due old mid new A closed s did =
    let r = rows_taken (a_certificate p) due old mid new s.items A s.so_far closed did in
    record {
      words = s.words;
      title = s.title;
      lines = s.lines;
      pivots_are = s.pivots_are;
      items = s.items ++ r.0;
      so_far = r.2;
      has = have_more p s.items r.0 (s.words ∷ s.lines) values (A.matrix ∷ []) s.has (rows_have p A r.0 r.1);
    }

pub matrix_unread : (p : ℕ) (t : CertificateTitle) (pivots : List Pair) (values : List Matrix) (due : List Due) (old mid new : InputState) (e : TextError) → open_at due ≡ None →
    MatricesRead p t pivots values (Header ∷ due) old mid → RowsDid p mid new (Err e) → PartDid (a_certificate p) (SaysCertificate p) old new (Err e)
matrix_unread p t pivots values due old mid new e closed s did = rows_missed (a_certificate p) due (SaysCertificate p) old mid new s.items e s.so_far closed did

-- the modulus of a matrix that was read
pub matrix_modulus : (p : ℕ) (old new : InputState) (A : ResidueMatrix) → old.reader.error ≡ None → RowsDid p old new (Ok A) → A.modulus ≡ p
matrix_modulus p old new A sound did = (part_reads (wants p (Header ∷ [])) (SaysRows p) old new (Ok A) sound did).reads.means.modulus

-- the rank alone
pub rank_claimed : (p : ℕ) (kind : CertKind) (s : InputState) → kind ≡ Rank → s.reader.error ≡ None → s.reader.open_text ≡ None → PartDid (wants p (claim_due kind)) (SaysClaim p kind) s s (Ok claim.Rank)
rank_claimed p kind s is sound closed =
    subst (λ k. PartDid (wants p (claim_due k)) (SaysClaim p k) s s (Ok claim.Rank)) (sym is)
    (so_far_ends (wants p []) (SaysClaim p Rank) s s [] [] claim.Rank (so_far_begins (wants p []) s sound closed)
    (record { whole = refl; has = words_have p []; of_kind = refl; modulus = tt }))

-- the matrix that was read is claimed, or it wasn't read
pub form_claimed : (p : ℕ) (kind : CertKind) (E : ResidueMatrix) (old new : InputState) → kind ≡ Rref → old.reader.error ≡ None → old.reader.open_text ≡ None → RowsDid p old new (Ok E) →
    PartDid (wants p (claim_due kind)) (SaysClaim p kind) old new (Ok (claim.Rref E))
form_claimed p kind E old new is sound closed did =
    let r = rows_taken (wants p (Header ∷ [])) [] old old new [] E (so_far_begins (wants p (Header ∷ [])) old sound closed) refl did in
    subst (λ k. PartDid (wants p (claim_due k)) (SaysClaim p k) old new (Ok (claim.Rref E))) (sym is)
    (so_far_ends (wants p (Header ∷ [])) (SaysClaim p Rref) old new r.0 [] (claim.Rref E) r.2
    (record { whole = refl; has = rows_have p E r.0 r.1; of_kind = refl; modulus = r.1.modulus }))

pub basis_claimed : (p : ℕ) (kind : CertKind) (K : ResidueMatrix) (old new : InputState) → kind ≡ Kernel → old.reader.error ≡ None → old.reader.open_text ≡ None → RowsDid p old new (Ok K) →
    PartDid (wants p (claim_due kind)) (SaysClaim p kind) old new (Ok (claim.Kernel K))
basis_claimed p kind K old new is sound closed did =
    let r = rows_taken (wants p (Header ∷ [])) [] old old new [] K (so_far_begins (wants p (Header ∷ [])) old sound closed) refl did in
    subst (λ k. PartDid (wants p (claim_due k)) (SaysClaim p k) old new (Ok (claim.Kernel K))) (sym is)
    (so_far_ends (wants p (Header ∷ [])) (SaysClaim p Kernel) old new r.0 [] (claim.Kernel K) r.2
    (record { whole = refl; has = rows_have p K r.0 r.1; of_kind = refl; modulus = r.1.modulus }))

pub claim_unread : (p : ℕ) (kind : CertKind) (old new : InputState) (e : TextError) → claim_due kind ≡ Header ∷ [] → old.reader.open_text ≡ None → RowsDid p old new (Err e) →
    PartDid (wants p (claim_due kind)) (SaysClaim p kind) old new (Err e)
claim_unread p kind old new e due closed did =
    subst (λ d. PartDid (wants p d) (SaysClaim p kind) old new (Err e)) (sym due) (first_missed p (Header ∷ []) [] (SaysRows p) (SaysClaim p kind) old new e closed refl did)

-- the modulus of what is claimed
pub claim_modulus : (p : ℕ) (kind : CertKind) (claimed : Claim) (old new : InputState) → old.reader.error ≡ None → PartDid (wants p (claim_due kind)) (SaysClaim p kind) old new (Ok claimed) → HasModulus p claimed
claim_modulus p kind claimed old new sound did = (part_reads (wants p (claim_due kind)) (SaysClaim p kind) old new (Ok claimed) sound did).reads.means.modulus

-- the whole certificate was read, or its last matrix wasn't
pub claim_missed : (p : ℕ) (t : CertificateTitle) (pivots : List Pair) (values : List Matrix) (old mid new : InputState) (e : TextError) →
    MatricesRead p t pivots values (claim_due t.kind) old mid → PartDid (wants p (claim_due t.kind)) (SaysClaim p t.kind) mid new (Err e) → PartDid (a_certificate p) (SaysCertificate p) old new (Err e)
claim_missed p t pivots values old mid new e s did =
    let P : List Due → Type 0 = λ d. ReadSoFar (a_certificate p) old mid s.items d in
    part_missed (a_certificate p) (claim_due t.kind) [] (SaysClaim p t.kind) old mid new s.items (subst P (sym (append-nil (claim_due t.kind))) s.so_far) refl (SaysCertificate p) e did

pub certificate_read : (p : ℕ) (t : CertificateTitle) (pivots : List Pair) (L U : ResidueMatrix) (claimed : Claim) (c : Certificate) (old mid new : InputState) →
    c ≡ record { p = t.p; pivots = pivots; l = L; u = U; claim = claimed } →
    MatricesRead p t pivots (L.matrix ∷ U.matrix ∷ []) (claim_due t.kind) old mid → PartDid (wants p (claim_due t.kind)) (SaysClaim p t.kind) mid new (Ok claimed) →
    PartDid (a_certificate p) (SaysCertificate p) old new (Ok c)
certificate_read p t pivots L U claimed c old mid new is s did =
    let r = part_reads (wants p (claim_due t.kind)) (SaysClaim p t.kind) mid new (Ok claimed) s.so_far.stands.sound did in
    let m = r.reads.means in
    let P : List Due → Type 0 = λ d. ReadSoFar (a_certificate p) old mid s.items d in
    let so_far = part_taken (a_certificate p) (claim_due t.kind) [] (SaysClaim p t.kind) old mid new s.items (subst P (sym (append-nil (claim_due t.kind))) s.so_far) refl claimed r in
    let Q : List Due → Type 0 = λ d. ReadSoFar (a_certificate p) old new (s.items ++ r.reads.items) d in
    let values : List Matrix = claim_values (claim_of claimed) in
    let same : claim_said (slice_index_or s.words 1 []) values ≡ claim_of claimed =
    ap (λ w. claim_said w values) s.title.kind ∙ ap (λ k. claim_said (kind_word k) values) (sym m.of_kind) ∙ claim_again (claim_of claimed) in
    rw is (so_far_ends (a_certificate p) (SaysCertificate p) old new (s.items ++ r.reads.items) [] _ (subst Q (ap (λ d. d ++ []) m.whole) so_far) (record {
      whole = refl;
      lines = s.words ∷ s.lines;
      values = L.matrix ∷ U.matrix ∷ values;
      has = have_more p s.items r.reads.items (s.words ∷ s.lines) (L.matrix ∷ U.matrix ∷ []) values s.has m.has;
      said = ap (λ n. Some (said n (map pivot_of s.lines) (claim_said (slice_index_or s.words 1 []) values))) s.title.modulus
          ∙ ap (λ qs. Some (said t.p qs (claim_said (slice_index_or s.words 1 []) values))) (sym s.pivots_are)
          ∙ ap (λ k. Some (said t.p pivots k)) same;
    }))
  where
    said : ℕ → List Pair → plain.Claim → plain.Certificate
    said n qs k = record { modulus = n; pivots = qs; left = L.matrix; right = U.matrix; claim = k }
