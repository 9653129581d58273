-- A text behind which a script is due, read as a text and then as a script.
use Rattle.std.proofs.Common.{ℕ, ◌≡◌, ◌≢◌, Bool, false, List, [], ◌∷◌, ◌++◌, ◌+◌, Result, Ok, Err, refl, sym, ap, ◌∙◌, subst, append_assoc}
use Rattle.sparse_rows.specs.Rows.{ResidueMatrix}
use Rattle.sms_text.specs.declared.kind.Kind.{Kind}
use Rattle.sms_text.specs.declared.kind.TextError.{TextError}
use Rattle.sms_text.specs.declared.kind.TextError.TheVariants as error
use Rattle.sms_text.specs.Lines.{Line, lines}
use Rattle.sms_text.specs.OuterLines.{Script}
use Rattle.sms_text.specs.Text.{Due, Header, Scripted, Outer, Item, Judged, Sizes, Reading, Got, Fault, Short, header_of, read, script_behind, with_item, with_script}
use Rattle.sms_text.specs.Parts.{IsTooShort, IsUnread, open_at, wants}
use Rattle.sms_text.specs.Reading.{Faulty, InputState, MayFollow, Next, Filled, TooLong, Missing, Took, Unknown, ReaderState, judged, next_line, read_on, supply, with_items}
use Rattle.sms_text.specs.ReadingRows.{RowsDid, SaysRows}
use Rattle.sms_text.proofs.Moving.{draws_with}
use Rattle.sms_text.proofs.Parts.{ReadSoFar, part_reads, part_sound}
use Rattle.sms_text.proofs.ReadingMatrices.{a_text}
use Rattle.sms_text.proofs.Runs.{after_one, read_one, with_items_got}

-- the script that the next line makes due, if it is a header
abbrev script_due : Next → List Due
script_due (Filled number ws room ls) = elim (header_of ws) [ Ok j ↦ script_behind j.item | Err k ↦ [] ]
script_due (TooLong number) = []
script_due (Missing number) = []
script_due Unknown = []

-- where a text with a script is due, the text is due, and behind it the script
scripted_one : (p : ℕ) (ended : Bool) (dues : List Due) (what : Next) → after_one p ended dues (judged p Scripted what) ≡ after_one p ended (script_due what ++ dues) (judged p Header what)
scripted_one p ended dues (TooLong number) = refl
scripted_one p ended dues (Missing number) = refl
scripted_one p ended dues Unknown = refl
scripted_one p ended dues (Filled number ws room ls) = by_header (header_of ws)
  where
    by_header : (r : Result Judged Kind) → after_one p ended dues (elim (with_script r) [ Ok j ↦ Took j room (number + 1) ls | Err k ↦ Faulty number k ])
        ≡ after_one p ended (elim r [ Ok j ↦ script_behind j.item | Err k ↦ [] ] ++ dues) (elim r [ Ok j ↦ Took j room (number + 1) ls | Err k ↦ Faulty number k ])
    by_header (Ok j) = ap (λ ds. with_item j.item (read p ended room (number + 1) ds ls)) (append_assoc j.due (script_behind j.item) dues)
    by_header (Err k) = refl

scripted_reads : (p : ℕ) (ended : Bool) (dues : List Due) (reader : ReaderState) (bytes : List ℕ) →
    read_on p ended (Scripted ∷ dues) reader bytes ≡ read_on p ended (Header ∷ (script_due (next_line ended reader bytes) ++ dues)) reader bytes
scripted_reads p ended dues reader bytes =
    read_one p ended reader.room reader.number Scripted dues (lines (reader.kept ++ bytes))
    ∙ scripted_one p ended dues (next_line ended reader bytes)
    ∙ sym (read_one p ended reader.room reader.number Header (script_due (next_line ended reader bytes) ++ dues) (lines (reader.kept ++ bytes)))

-- where a text was read its header is known
first_item : (item i : Item) (items : List Item) (reading : Reading) (rest : List Line) → with_item item reading ≡ Got (i ∷ items) rest → item ≡ i
first_item item i items (Got more ls) rest e = cc
first_item item i items (Fault line k) rest e = absurd cc
first_item item i items Short rest e = absurd cc

known_script : (p : ℕ) (ended : Bool) (what : Next) (m n : ℕ) (items : List Item) (rest : List Line) → after_one p ended [] (judged p Header what) ≡ Got (Sizes m n ∷ items) rest → script_due what ≡ Outer (Script n) ∷ []
known_script p ended (TooLong number) m n items rest e = absurd cc
known_script p ended (Missing number) m n items rest e = absurd cc
known_script p ended Unknown m n items rest e = absurd cc
known_script p ended (Filled number ws room ls) m n items rest e = by_header (header_of ws) e
  where
    by_header : (r : Result Judged Kind) → after_one p ended [] (elim r [ Ok j ↦ Took j room (number + 1) ls | Err k ↦ Faulty number k ]) ≡ Got (Sizes m n ∷ items) rest →
        elim r [ Ok j ↦ script_behind j.item | Err k ↦ [] ] ≡ Outer (Script n) ∷ []
    by_header (Ok j) g = ap script_behind (first_item j.item (Sizes m n) items _ rest g)
    by_header (Err k) g = absurd cc

-- bytes that are too few for a text are too few for one with a script
pub scripted_short : (p : ℕ) (reader : ReaderState) (bytes : List ℕ) → IsTooShort (wants p (Header ∷ [])) reader bytes → IsTooShort (wants p (Scripted ∷ [])) reader bytes
scripted_short p reader bytes few = λ dues. scripted_reads p false dues reader bytes ∙ few (script_due (next_line false reader bytes) ++ dues)

-- a text was read, and its script is due
pub scripted_taken : (p : ℕ) (old new : InputState) (A : ResidueMatrix) → RowsDid p old new (Ok A) →
    (items : List Item) × SaysRows p A items [] × ReadSoFar (wants p (Scripted ∷ [])) old new items (Outer (Script A.matrix.width) ∷ [])
scripted_taken p old new A did =
    let sound = part_sound (a_text p) (SaysRows p) old new A did in
    let r = part_reads (a_text p) (SaysRows p) old new (Ok A) sound did in
    let is = r.reads in
    let script = Outer (Script A.matrix.width) in
    let reads : (ended : Bool) (more : List ℕ) (dues : List Due) → MayFollow new.reader.ended ended more →
    read_on p ended (Header ∷ dues) old.reader (r.taken ++ more) ≡ with_items is.items (read_on p ended dues new.reader more) = λ ended more dues h.
    is.stands.reads ended more dues h ∙ ap (λ ds. with_items is.items (read_on p ended (ds ++ dues) new.reader more)) is.means.whole in
    let due : (ended : Bool) (more : List ℕ) → MayFollow new.reader.ended ended more → script_due (next_line ended old.reader (r.taken ++ more)) ≡ script ∷ [] = λ ended more h.
    known_script p ended (next_line ended old.reader (r.taken ++ more)) A.matrix.height A.matrix.width is.means.sizes.0 _
    (sym (read_one p ended old.reader.room old.reader.number Header [] (lines (old.reader.kept ++ (r.taken ++ more)))) ∙ reads ended more [] h ∙ with_items_got is.items (lines (new.reader.kept ++ more)) ∙ ap (λ l. Got l (lines (new.reader.kept ++ more))) is.means.sizes.1) in (
      is.items,
      subst (SaysRows p A is.items) is.means.whole is.means,
      record {
        begun = sound;
        taken = r.taken;
        draws = draws_with (IsTooShort (a_text p) old.reader) (IsTooShort (wants p (Scripted ∷ [])) old.reader) false r.taken (supply old) (supply new) (scripted_short p old.reader) r.draws;
        stands = record {
          sound = is.stands.sound;
          opened = is.stands.opened ∙ ap open_at is.means.whole;
          reads = λ ended more dues h.
              scripted_reads p ended dues old.reader (r.taken ++ more)
              ∙ ap (λ ds. read_on p ended (Header ∷ (ds ++ dues)) old.reader (r.taken ++ more)) (due ended more h)
              ∙ reads ended more (script ∷ dues) h;
        };
      },
    )

-- it wasn't read, and not for want of memory
pub scripted_unread : (p : ℕ) (old new : ReaderState) (taken : List ℕ) (e : TextError) → e ≢ error.Memory → IsUnread (wants p (Header ∷ [])) old new taken e → IsUnread (wants p (Scripted ∷ [])) old new taken e
scripted_unread p old new taken (error.Bad line k) other u = (u.0, λ dues. scripted_reads p new.ended dues old taken ∙ u.1 (script_due (next_line new.ended old taken) ++ dues))
scripted_unread p old new taken error.Read other u = (u.0, λ dues. scripted_reads p new.ended dues old taken ∙ u.1 (script_due (next_line new.ended old taken) ++ dues))
scripted_unread p old new taken error.Memory other u = absurd (other refl)
