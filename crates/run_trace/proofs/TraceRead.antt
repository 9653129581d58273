-- A trace read part by part.
use Rattle.std.proofs.Common.{ℕ, ◌≡◌, List, [], ◌∷◌, ◌++◌, map, None, Some, Ok, Err, refl, sym, ap, ◌∙◌, subst, append-nil}
use Rattle.sms_text.specs.declared.kind.TextError.{TextError}
use Rattle.sms_text.specs.OuterLines.{Step}
use Rattle.sms_text.specs.OuterLines as form
use Rattle.sms_text.specs.Parts.{PartDid, SaysLines, Wanted, open_at, wants}
use Rattle.sms_text.specs.Reading.{InputState}
use Rattle.sms_text.specs.Text.{Due, Outer, Item, Words, due_behind, step_lines}
use Rattle.sms_text.proofs.CountedLines.{counted_closed}
use Rattle.sms_text.proofs.Parts.{ReadSoFar, part_missed, part_reads, part_sound, part_taken, so_far_ends}
use Rattle.run_trace.specs.declared.publication.Publication.{Publication}
use Rattle.run_trace.specs.declared.trace.Trace.{Trace}
use Rattle.run_trace.specs.declared.trace_title.TraceTitle.{TraceTitle}
use Rattle.run_trace.specs.TraceText.{SaysTrace, publication_of}
use Rattle.run_trace.specs.TraceParts.{IsTraceTitle, SaysTraceTitle}

-- what is wanted is a trace
abbrev pub a_trace : ℕ → Wanted
a_trace p = wants p (Outer form.Trace ∷ [])

-- no text is open behind the first line
pub title_closed : (ws : List (List ℕ)) (t : TraceTitle) → IsTraceTitle ws t → open_at (due_behind form.Trace ws) ≡ None
title_closed ws t is = ap (λ n. open_at (step_lines n)) is.count ∙ ap open_at (sym (append-nil (step_lines t.count))) ∙ counted_closed Step t.count [] refl

-- the first line was read
pub record TitleRead (p : ℕ) (t : TraceTitle) (old new : InputState) : Type 0 where
  pub words : List (List ℕ)
  pub title : IsTraceTitle words t
  pub so_far : ReadSoFar (a_trace p) old new (Words words ∷ []) (step_lines t.count ++ [])

pub title_read : (p : ℕ) (t : TraceTitle) (old new : InputState) → PartDid (a_trace p) SaysTraceTitle old new (Ok t) → TitleRead p t old new
title_read p t old new did =
    let sound = part_sound (a_trace p) SaysTraceTitle old new t did in
    let r = part_reads (a_trace p) SaysTraceTitle old new (Ok t) sound did in
    let m = r.reads.means in
    let s : ReadSoFar (a_trace p) old new r.reads.items r.reads.due = record { begun = sound; taken = r.taken; draws = r.draws; stands = r.reads.stands } in
    let due : r.reads.due ≡ step_lines t.count ++ [] = m.due_are ∙ ap step_lines m.title.count ∙ sym (append-nil (step_lines t.count)) in
    let P : List Item → Type 0 = λ i. ReadSoFar (a_trace p) old new i r.reads.due in
    let Q : List Due → Type 0 = λ d. ReadSoFar (a_trace p) old new (Words m.words ∷ []) d in
    record { words = m.words; title = m.title; so_far = subst Q due (subst P m.items_are s) }

-- the publications weren't read behind it
pub steps_unread : (p : ℕ) (t : TraceTitle) (e : TextError) (old mid new : InputState) → TitleRead p t old mid → PartDid (wants p (step_lines t.count)) (SaysLines publication_of) mid new (Err e) →
    PartDid (a_trace p) SaysTrace old new (Err e)
steps_unread p t e old mid new s did =
    part_missed (a_trace p) (step_lines t.count) [] (SaysLines publication_of) old mid new (Words s.words ∷ []) s.so_far refl SaysTrace e did

-- the whole trace was read
pub trace_read : (p : ℕ) (t : TraceTitle) (list : List Publication) (old mid new : InputState) → TitleRead p t old mid → PartDid (wants p (step_lines t.count)) (SaysLines publication_of) mid new (Ok list) →
    PartDid (a_trace p) SaysTrace old new (Ok (record { p = t.p; publications = list }))
trace_read p t list old mid new s did =
    let r = part_reads (wants p (step_lines t.count)) (SaysLines publication_of) mid new (Ok list) s.so_far.stands.sound did in
    let m = r.reads.means in
    let so_far = part_taken (a_trace p) (step_lines t.count) [] (SaysLines publication_of) old mid new (Words s.words ∷ []) s.so_far refl list r in
    let P : List Item → Type 0 = λ i. ReadSoFar (a_trace p) old new (Words s.words ∷ i) (r.reads.due ++ []) in
    let Q : List Due → Type 0 = λ d. ReadSoFar (a_trace p) old new (Words s.words ∷ map Words m.lines) (d ++ []) in
    so_far_ends (a_trace p) SaysTrace old new (Words s.words ∷ map Words m.lines) [] (record { p = t.p; publications = list }) (subst Q m.whole (subst P m.items_are so_far)) (record {
      whole = refl;
      lines = s.words ∷ m.lines;
      items_are = refl;
      said = ap (λ n. Some (made n (map publication_of m.lines))) s.title.modulus ∙ ap (λ l. Some (made t.p l)) (sym m.list_is);
    })
  where
    made : ℕ → List Publication → Trace
    made n l = record { p = n; publications = l }
