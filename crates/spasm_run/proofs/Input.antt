-- From the calls of a reader to what was read.
use Rattle.std.proofs.Common.{ℕ, false, ◌≡◌, List, [], ◌∷◌, ◌++◌, None, Result, Ok, Err, refl, sym, ap, ap₂, ◌∙◌, subst, append-nil}
use Rattle.residue_words.specs.Matrix.{Matrix}
use Rattle.sms_text.specs.OuterLines as form
use Rattle.sms_text.specs.declared.kind.TextError.{TextError}
use Rattle.sms_text.specs.declared.kind.TextError.TheVariants as error
use Rattle.sms_text.specs.Lines.{lines}
use Rattle.sms_text.specs.Parts.{IsReadAs, IsTooShort, IsUnread, PartDid, ReadsPart, open_at, wants}
use Rattle.sms_text.specs.Reading.{InputState, IsShort, ReaderState, input, new_reader, read_on, supply, untouched, with_items}
use Rattle.sms_text.specs.ReadingRows.{RowsDid, SaysRows}
use Rattle.sms_text.specs.Stream.{SourceState}
use Rattle.sms_text.specs.Text.{Due, Header, Outer, Got, Item, Request, matrices, outer_lines}
use Rattle.sms_text.proofs.Moving.{draws_none, draws_with, stays_at}
use Rattle.sms_text.proofs.Parts.{ReadSoFar, first_missed, part_missed, part_reads, part_sound, part_taken, so_far_begins, so_far_ends}
use Rattle.sms_text.proofs.ReadingMatrices.{rows_missed, rows_taken}
use Rattle.sms_text.proofs.Runs.{with_items_got}
use Rattle.sparse_rows.specs.Rows.{ResidueMatrix}
use Rattle.certificates.specs.declared.certificate.Certificate.{Certificate}
use Rattle.certificates.specs.CertificateText.{HasLines, SaysCertificate}
use Rattle.certificates.proofs.CertificateLines.{words_have}
use Rattle.run_trace.specs.declared.trace.Trace.{Trace}
use Rattle.run_trace.specs.TraceText.{SaysTrace}
use Rattle.spasm_run.specs.Contents.{Contents, contents, matrices_alone}
use Rattle.spasm_run.specs.Input.{Input, SaysContents, WasRead, WereRead, WereReadToReplay, one_value}

-- what is due from the first line on
abbrev pub from_start : ℕ → ℕ → List Due → Request
from_start p limit due = record { modulus = p; limit = limit; due = due }

-- nothing was taken
abbrev pub untaken : Input
untaken = record { bytes = []; ended = false }

-- nothing was asked of the source
pub read_nothing : (r : Request) (source : SourceState) → WasRead r (Err error.Memory) source source
read_nothing r source = record { input = untaken; draws = draws_none (IsShort r) (untouched source); says = tt }

-- where no text is due, all is read
pub all_read : (p limit : ℕ) (source : SourceState) → WasRead (from_start p limit []) (Ok (matrices_alone [])) source source
all_read p limit source = record {
  input = untaken;
  draws = draws_none (IsShort (from_start p limit [])) (untouched source);
  says = record { items = []; rest = lines []; reads = refl; are = refl };
}

-- What a new reader that is used with a source says of parts is what the source's bytes say.
module _ {T : Type 0} (p limit : ℕ) (due : List Due) (Means : T → List Item → List Due → Type 0) (source : SourceState) (new : InputState) where
  abbrev taken_by : List ℕ → Input
  taken_by taken = record { bytes = taken; ended = new.reader.ended }

  abbrev begun : InputState
  begun = input (new_reader limit) source

  -- too few bytes for the parts, whatever is due behind them
  too_few : (more : List ℕ) → IsTooShort (wants p due) (new_reader limit) more → IsShort (from_start p limit due) more
  too_few more few = ap (λ ds. read_on p false ds (new_reader limit) more) (sym (append-nil due)) ∙ few []

  -- the parts, and nothing that is due behind them
  whole_reads : (taken : List ℕ) (Holds : List Item → List Due → Type 0) (is : IsReadAs (wants p due) Holds (new_reader limit) new.reader taken) → is.due ≡ [] →
      read_on p new.reader.ended due (new_reader limit) taken ≡ Got is.items (lines (new.reader.kept ++ []))
  whole_reads taken Holds is none =
      ap (λ ds. read_on p new.reader.ended ds (new_reader limit) taken) (sym (append-nil due)) ∙ ap (read_on p new.reader.ended (due ++ []) (new_reader limit)) (sym (append-nil taken))
      ∙ is.stands.reads new.reader.ended [] [] (stays_at new.reader.ended)
      ∙ ap (λ ds. with_items is.items (read_on p new.reader.ended (ds ++ []) new.reader [])) none ∙ with_items_got is.items (lines (new.reader.kept ++ []))

  found_parts : (x : T) (said : Contents) → ((items : List Item) (rest : List Due) → Means x items rest → (rest ≡ []) × (contents p items ≡ said)) →
      ReadsPart (wants p due) Means begun new (Ok x) → WasRead (from_start p limit due) (Ok said) source new.source
  found_parts x said are did =
      let means = are did.reads.items did.reads.due did.reads.means in
      record {
        input = taken_by did.taken;
        draws = draws_with (IsTooShort (wants p due) (new_reader limit)) (IsShort (from_start p limit due)) false did.taken (untouched source) (supply new) too_few did.draws;
        says = record {
          items = did.reads.items;
          rest = lines (new.reader.kept ++ []);
          reads = whole_reads did.taken (Means x) did.reads means.0;
          are = means.1;
        };
      }

  unread_says : (taken : List ℕ) (e : TextError) → IsUnread (wants p due) (new_reader limit) new.reader taken e → SaysContents (from_start p limit due) (taken_by taken) (Err e)
  unread_says taken (error.Bad line k) why = ap (λ ds. read_on p new.reader.ended ds (new_reader limit) taken) (sym (append-nil due)) ∙ why.1 []
  unread_says taken error.Read why = ap (λ ds. read_on p new.reader.ended ds (new_reader limit) taken) (sym (append-nil due)) ∙ why.1 []
  unread_says taken error.Memory why = tt

  failed_parts : (e : TextError) → ReadsPart (wants p due) Means begun new (Err e) → WasRead (from_start p limit due) (Err e) source new.source
  failed_parts e did = record {
    input = taken_by did.taken;
    draws = draws_with (IsTooShort (wants p due) (new_reader limit)) (IsShort (from_start p limit due)) _ did.taken (untouched source) (supply new) too_few did.draws;
    says = unread_says did.taken e did.reads;
  }

-- parts were read from a new reader on, and mean these contents; or they weren't
pub parts_read : {T : Type 0} (p limit : ℕ) (due : List Due) (Means : T → List Item → List Due → Type 0) (reader : ReaderState) (source : SourceState) (new : InputState) (x : T) (said : Contents) → reader ≡ new_reader limit →
    ((items : List Item) (rest : List Due) → Means x items rest → (rest ≡ []) × (contents p items ≡ said)) →
    PartDid (wants p due) Means (input reader source) new (Ok x) → WasRead (from_start p limit due) (Ok said) source new.source
parts_read p limit due Means reader source new x said begins are did =
    let P : ReaderState → Type 0 = λ o. PartDid (wants p due) Means (input o source) new (Ok x) in found_parts p limit due Means source new x said are (subst P begins did)

pub parts_unread : {T : Type 0} (p limit : ℕ) (due : List Due) (Means : T → List Item → List Due → Type 0) (reader : ReaderState) (source : SourceState) (new : InputState) (e : TextError) → reader ≡ new_reader limit →
    PartDid (wants p due) Means (input reader source) new (Err e) → WasRead (from_start p limit due) (Err e) source new.source
parts_unread p limit due Means reader source new e begins did =
    let P : ReaderState → Type 0 = λ o. PartDid (wants p due) Means (input o source) new (Err e) in failed_parts p limit due Means source new e (subst P begins did)

-- items say these matrices and these lines
pub contents_are : (p : ℕ) (items : List Item) (values : List Matrix) (ls : List (List (List ℕ))) → matrices p items ≡ values → outer_lines items ≡ ls → contents p items ≡ record { matrices = values; lines = ls }
contents_are p items values ls m l = ap₂ said m l
  where
    said : List Matrix → List (List (List ℕ)) → Contents
    said values ls = record { matrices = values; lines = ls }

-- a text is one matrix
one_matrix : (p : ℕ) (A : ResidueMatrix) (items : List Item) (rest : List Due) → SaysRows p A items rest → (rest ≡ []) × (contents p items ≡ matrices_alone (A.matrix ∷ []))
one_matrix p A items rest is = (
  is.whole,
  contents_are p items (A.matrix ∷ []) [] (ap (matrices p) (sym (append-nil items)) ∙ is.matrix []) (ap outer_lines (sym (append-nil items)) ∙ is.inside []),
)

-- one text was read, or not
pub one_read : (p limit : ℕ) (reader : ReaderState) (source : SourceState) (new : InputState) (result : Result ResidueMatrix TextError) → reader ≡ new_reader limit →
    RowsDid p (input reader source) new result → WasRead (from_start p limit (Header ∷ [])) (one_value result) source new.source
one_read p limit reader source new (Ok A) begins did = parts_read p limit (Header ∷ []) (SaysRows p) reader source new A (matrices_alone (A.matrix ∷ [])) begins (one_matrix p A) did
one_read p limit reader source new (Err e) begins did = parts_unread p limit (Header ∷ []) (SaysRows p) reader source new e begins did

closed_at_first : (limit : ℕ) (reader : ReaderState) → reader ≡ new_reader limit → reader.open_text ≡ None
closed_at_first limit reader begins = ap (λ r. r.open_text) begins

-- a matrix was not read, whatever is due behind it
pub first_unread : (p limit : ℕ) (due : List Due) (reader : ReaderState) (source : SourceState) (new : InputState) (e : TextError) → open_at due ≡ None → reader ≡ new_reader limit →
    RowsDid p (input reader source) new (Err e) → WasRead (from_start p limit (Header ∷ due)) (Err e) source new.source
first_unread p limit due reader source new e closed begins did =
    parts_unread p limit (Header ∷ due) (SaysRows p) reader source new e begins
    (first_missed p (Header ∷ []) due (SaysRows p) (SaysRows p) (input reader source) new e (closed_at_first limit reader begins) closed did)

-- these items are two texts, of these matrices
abbrev AreTwo : ℕ → (ResidueMatrix × ResidueMatrix) → List Item → List Due → Type 0
AreTwo p both items rest = (rest ≡ []) × (contents p items ≡ matrices_alone (both.0.matrix ∷ both.1.matrix ∷ []))

-- a matrix, and a certificate behind it
abbrev pub to_check : List Due
to_check = Header ∷ Outer form.Certificate ∷ []

-- and a trace
abbrev pub to_replay : List Due
to_replay = Header ∷ Outer form.Trace ∷ []

-- these items say these contents
abbrev AreSaid : ℕ → Contents → List Item → List Due → Type 0
AreSaid p said items rest = (rest ≡ []) × (contents p items ≡ said)

all_matrices : (p : ℕ) (items : List Item) (ls : List (List (List ℕ))) (values : List Matrix) → HasLines p items ls values → matrices p items ≡ values
all_matrices p items ls values has = ap (matrices p) (sym (append-nil items)) ∙ has.matrices [] ∙ append-nil values

all_lines : (p : ℕ) (items : List Item) (ls : List (List (List ℕ))) (values : List Matrix) → HasLines p items ls values → outer_lines items ≡ ls
all_lines p items ls values has = ap outer_lines (sym (append-nil items)) ∙ has.words [] ∙ append-nil ls

-- behind a first matrix
module _ (p limit : ℕ) (reader : ReaderState) (source : SourceState) (mid new : InputState) (A : ResidueMatrix) (begins : reader ≡ new_reader limit) (first : RowsDid p (input reader source) mid (Ok A)) where
  behind_first : (due : List Due) → open_at due ≡ None → (items : List Item) × SaysRows p A items [] × ReadSoFar (wants p (Header ∷ due)) (input reader source) mid items due
  behind_first due closed = rows_taken (wants p (Header ∷ due)) due (input reader source) (input reader source) mid [] A
      (so_far_begins (wants p (Header ∷ due)) (input reader source) (part_sound (wants p (Header ∷ [])) (SaysRows p) (input reader source) mid A first) (closed_at_first limit reader begins)) closed first

  -- a second one was read
  pub two_read : (B : ResidueMatrix) → RowsDid p mid new (Ok B) → WasRead (from_start p limit (Header ∷ Header ∷ [])) (Ok (matrices_alone (A.matrix ∷ B.matrix ∷ []))) source new.source
  two_read B second =
      let s = behind_first (Header ∷ []) refl in
      let t = rows_taken (wants p (Header ∷ Header ∷ [])) [] (input reader source) mid new s.0 B s.2 refl second in
      let last = t.1 in
      parts_read p limit (Header ∷ Header ∷ []) (AreTwo p) reader source new (A, B) (matrices_alone (A.matrix ∷ B.matrix ∷ [])) begins (λ items rest is. is)
      (so_far_ends (wants p (Header ∷ Header ∷ [])) (AreTwo p) (input reader source) new (s.0 ++ t.0) [] (A, B) t.2 (
        refl,
        contents_are p (s.0 ++ t.0) (A.matrix ∷ B.matrix ∷ []) []
            (s.1.matrix t.0 ∙ ap (λ ms. A.matrix ∷ ms) (ap (matrices p) (sym (append-nil t.0)) ∙ last.matrix [])) (s.1.inside t.0 ∙ ap outer_lines (sym (append-nil t.0)) ∙ last.inside []),
      ))

  -- or not
  pub second_unread : (e : TextError) → RowsDid p mid new (Err e) → WasRead (from_start p limit (Header ∷ Header ∷ [])) (Err e) source new.source
  second_unread e second =
      let s = behind_first (Header ∷ []) refl in
      parts_unread p limit (Header ∷ Header ∷ []) (AreTwo p) reader source new e begins
      (rows_missed (wants p (Header ∷ Header ∷ [])) [] (AreTwo p) (input reader source) mid new s.0 e s.2 refl second)

  -- a certificate was read
  pub certificate_read : (c : Certificate) → PartDid (wants p (Outer form.Certificate ∷ [])) (SaysCertificate p) mid new (Ok c) → WereRead (from_start p limit to_check) (Ok (A, c)) source new.source
  certificate_read c second =
      let s = behind_first (Outer form.Certificate ∷ []) refl in
      let r = part_reads (wants p (Outer form.Certificate ∷ [])) (SaysCertificate p) mid new (Ok c) s.2.stands.sound second in
      let m = r.reads.means in
      let so_far = part_taken (wants p to_check) (Outer form.Certificate ∷ []) [] (SaysCertificate p) (input reader source) mid new s.0 s.2 refl c r in
      let said : Contents = record { matrices = A.matrix ∷ m.values; lines = m.lines } in
      let are : contents p (s.0 ++ r.reads.items) ≡ said = contents_are p (s.0 ++ r.reads.items) (A.matrix ∷ m.values) m.lines
      (s.1.matrix r.reads.items ∙ ap (λ ms. A.matrix ∷ ms) (all_matrices p r.reads.items m.lines m.values m.has))
      (s.1.inside r.reads.items ∙ all_lines p r.reads.items m.lines m.values m.has) in (
        said,
        parts_read p limit to_check (AreSaid p) reader source new said said begins (λ items rest is. is)
            (so_far_ends (wants p to_check) (AreSaid p) (input reader source) new (s.0 ++ r.reads.items) (r.reads.due ++ []) said so_far (append-nil r.reads.due ∙ m.whole, are)),
        record { behind = m.values; matrices = refl; says = m.said },
      )

  -- or not
  pub certificate_unread : (e : TextError) → PartDid (wants p (Outer form.Certificate ∷ [])) (SaysCertificate p) mid new (Err e) → WasRead (from_start p limit to_check) (Err e) source new.source
  certificate_unread e second =
      let s = behind_first (Outer form.Certificate ∷ []) refl in
      parts_unread p limit to_check (AreSaid p) reader source new e begins
      (part_missed (wants p to_check) (Outer form.Certificate ∷ []) [] (SaysCertificate p) (input reader source) mid new s.0 s.2 refl (AreSaid p) e second)

  -- a trace was read
  pub trace_read : (t : Trace) → PartDid (wants p (Outer form.Trace ∷ [])) SaysTrace mid new (Ok t) → WereReadToReplay (from_start p limit to_replay) (Ok (A, t)) source new.source
  trace_read t second =
      let s = behind_first (Outer form.Trace ∷ []) refl in
      let r = part_reads (wants p (Outer form.Trace ∷ [])) SaysTrace mid new (Ok t) s.2.stands.sound second in
      let m = r.reads.means in
      let has : HasLines p r.reads.items m.lines [] = subst (λ i. HasLines p i m.lines []) (sym m.items_are) (words_have p m.lines) in
      let so_far = part_taken (wants p to_replay) (Outer form.Trace ∷ []) [] SaysTrace (input reader source) mid new s.0 s.2 refl t r in
      let said : Contents = record { matrices = A.matrix ∷ []; lines = m.lines } in
      let are : contents p (s.0 ++ r.reads.items) ≡ said = contents_are p (s.0 ++ r.reads.items) (A.matrix ∷ []) m.lines
      (s.1.matrix r.reads.items ∙ ap (λ ms. A.matrix ∷ ms) (all_matrices p r.reads.items m.lines [] has))
      (s.1.inside r.reads.items ∙ all_lines p r.reads.items m.lines [] has) in (
        said,
        parts_read p limit to_replay (AreSaid p) reader source new said said begins (λ items rest is. is)
            (so_far_ends (wants p to_replay) (AreSaid p) (input reader source) new (s.0 ++ r.reads.items) (r.reads.due ++ []) said so_far (append-nil r.reads.due ∙ m.whole, are)),
        record { matrices = refl; says = m.said },
      )

  -- or not
  pub trace_unread : (e : TextError) → PartDid (wants p (Outer form.Trace ∷ [])) SaysTrace mid new (Err e) → WasRead (from_start p limit to_replay) (Err e) source new.source
  trace_unread e second =
      let s = behind_first (Outer form.Trace ∷ []) refl in
      parts_unread p limit to_replay (AreSaid p) reader source new e begins
      (part_missed (wants p to_replay) (Outer form.Trace ∷ []) [] SaysTrace (input reader source) mid new s.0 s.2 refl (AreSaid p) e second)
