-- A text read line by line as a matrix.
use Rattle.std.proofs.Common.{ℕ, ◌≡◌, ◌+◌, ◌<◌, ◌&&◌, List, [], ◌∷◌, ◌++◌, map, Option, None, Some, Result, Ok, Err, refl, sym, ap, ◌∙◌, subst}
use Rattle.std.proofs.lemmas.List.{map-append}
use Rattle.std.specs.Prelude.{◌==◌, if◌then◌else◌}
use Rattle.sparse_rows.specs.Rows.{ResidueMatrix, Building, Triple, sum_at, built}
use Rattle.sms_text.specs.declared.kind.TextError.{TextError}
use Rattle.sms_text.specs.declared.kind.TextError.TheVariants as error
use Rattle.sms_text.specs.declared.reader.Entry.{Entry}
use Rattle.sms_text.specs.declared.reader.Head.{Head}
use Rattle.sms_text.specs.Text.{Due, Header, Body, Item, Sizes, Value, Closing, Judged, value_at, matrices, outer_lines}
use Rattle.sms_text.specs.Parts.{open_at, PartDid, Wanted, wants}
use Rattle.sms_text.specs.PlainLines.{TookEntries, entry_item, entry_triple, with_entries_pushed}
use Rattle.sms_text.specs.Reading.{InputState, MayFollow, ReaderState, TakesLine, LineDid, Repeats, LeavesOpen, header_judged, entry_judged, input, read_on, with_items}
use Rattle.sms_text.specs.ReadingRows.{SaysRows, RowsDid}
use Rattle.sms_text.proofs.Falling.{takes_room}
use Rattle.sms_text.proofs.Parts.{ReadSoFar, takes_due, misses_due, so_far_begins, so_far_pauses, so_far_ends, line_taken, line_missed, first_line_missed, part_reads, part_taken, part_missed}
use Rattle.sms_text.proofs.Runs.{line_takes, with_items_twice}

-- a call that took a line found the reader sound
pub line_sound : (p : ℕ) (due : Due) (old new : InputState) (j : Judged) → LineDid p due old new (Ok j) → old.reader.error ≡ None
line_sound p due old new j =
    elim old.reader.error as (λ o. elim o [ None ↦ TakesLine p due old new j | Some e ↦ Repeats old new (Ok j) e ] → o ≡ None)
    [ None ↦ λ t. refl | Some e ↦ λ h. absurd (let x = h.0 in cc) ]

-- the line that is due was read, or an error was kept: then no line is kept for refusal
pub line_last : (p : ℕ) (due : Due) (old new : InputState) (result : Result Judged TextError) → LineDid p due old new result → old.reader.error ≡ None → new.reader.last ≡ None
line_last p due old new (Ok j) did sound = (line_takes p due old new (Ok j) sound did).last
line_last p due old new (Err e) did sound = (line_takes p due old new (Err e) sound did).last

-- what the pushed entries are as items
abbrev pub triple_item : Triple → Item
triple_item t = Value t.i t.j t.v

-- what is wanted is a text
abbrev pub a_text : ℕ → Wanted
a_text p = wants p (Header ∷ [])

-- a text of these sizes was read as far as the entries that the builder has got
pub record IsReading (p : ℕ) (h : Head) (b : Building) (old new : InputState) : Type 0 where
  pub modulus : b.modulus ≡ p
  pub height : b.height ≡ h.m
  pub width : b.width ≡ h.n
  pub so_far : ReadSoFar (a_text p) old new (Sizes h.m h.n ∷ map triple_item b.pushed) (Body h.m h.n ∷ [])
  pub last : new.reader.last ≡ None

-- the header was read
pub reading_begins : (p : ℕ) (h : Head) (b : Building) (old new : InputState) → b ≡ record { modulus = p; height = h.m; width = h.n; pushed = [] } →
    old.reader.open_text ≡ None → LineDid p Header old new (header_judged (Ok h)) → new.reader.open_text ≡ Some (h.m, h.n) → IsReading p h b old new
reading_begins p h b old new blank closed did opened =
    let sound = line_sound p Header old new _ did in
    let t = line_takes p Header old new (header_judged {E = TextError} (Ok h)) sound did in
    rw blank (record {
      modulus = refl;
      height = refl;
      width = refl;
      so_far = line_taken (a_text p) old old new [] Header [] (so_far_begins (a_text p) old sound closed) _ (takes_due p Header old new _ t) opened;
      last = t.last;
    })

-- an entry was read and pushed
pub reading_goes : (p : ℕ) (h : Head) (b b' : Building) (e : Entry) (o : Option Entry) (old mid new : InputState) →
    IsReading p h b old mid → LineDid p (Body h.m h.n) mid new (entry_judged h (Ok o)) → LeavesOpen h p new.reader o → o ≡ Some e →
    b' ≡ record b { pushed = b.pushed ++ record { i = e.i; j = e.j; v = e.v } ∷ [] } → IsReading p h b' old new
reading_goes p h b b' e None old mid new is did opened some more = absurd cc
reading_goes p h b b' e (Some d) old mid new is did opened some more =
    let same : d ≡ e = cc in
    let due = Body h.m h.n in
    let t = line_takes p due mid new (entry_judged h (Ok (Some d))) is.so_far.stands.sound did in
    let so_far = line_taken (a_text p) old mid new _ due [] is.so_far _ (takes_due p due mid new _ t) opened.0 in
    let P : List Item → Type 0 = λ l. ReadSoFar (a_text p) old new (Sizes h.m h.n ∷ l) (Body h.m h.n ∷ []) in
    let pushed : map triple_item b.pushed ++ Value d.i d.j d.v ∷ [] ≡ map triple_item (b.pushed ++ record { i = e.i; j = e.j; v = e.v } ∷ []) = rw same (sym (map-append triple_item b.pushed (record { i = e.i; j = e.j; v = e.v } ∷ []))) in
    rw more (record {
      modulus = is.modulus;
      height = is.height;
      width = is.width;
      so_far = subst P pushed so_far;
      last = t.last;
    })

-- plain lines were taken
so_far_plain : (w : Wanted) (h : Head) (rest : List Due) (old mid : InputState) (new : ReaderState) (items : List Item) (es : List Entry) → ReadSoFar w old mid items (Body h.m h.n ∷ rest) →
    TookEntries w.modulus h mid.reader new es → ReadSoFar w old (input new mid.source) (items ++ map entry_item es) (Body h.m h.n ∷ rest)
so_far_plain w h rest old mid new items es s t = record {
  begun = s.begun;
  taken = s.taken;
  draws = rw t.ended s.draws;
  stands = record {
    sound = t.error;
    opened = t.open_text ∙ s.stands.opened;
    reads = λ ended more dues m.
        let m' : MayFollow mid.reader.ended ended more = rw t.ended at m in
        s.stands.reads ended more dues m' ∙ ap (with_items items) (t.reads ended more (rest ++ dues))
        ∙ sym (with_items_twice items (map entry_item es) (read_on w.modulus ended (Body h.m h.n ∷ (rest ++ dues)) new more));
  };
}

items_pushed : (es : List Entry) → map triple_item (map entry_triple es) ≡ map entry_item es
items_pushed [] = refl
items_pushed (e ∷ es) = ap (λ t. entry_item e ∷ t) (items_pushed es)

-- and their entries pushed
pub reading_plain : (p : ℕ) (h : Head) (b b' : Building) (es : List Entry) (old mid : InputState) (new : ReaderState) →
    IsReading p h b old mid → TookEntries p h mid.reader new es → b' ≡ with_entries_pushed b es → IsReading p h b' old (input new mid.source)
reading_plain p h b b' es old mid new is took more =
    let P : List Item → Type 0 = λ l. ReadSoFar (a_text p) old (input new mid.source) (Sizes h.m h.n ∷ l) (Body h.m h.n ∷ []) in
    let pushed : map triple_item b.pushed ++ map entry_item es ≡ map triple_item (b.pushed ++ map entry_triple es) =
    ap (λ t. map triple_item b.pushed ++ t) (sym (items_pushed es)) ∙ sym (map-append triple_item b.pushed (map entry_triple es)) in
    rw more (record {
      modulus = is.modulus;
      height = is.height;
      width = is.width;
      so_far = subst P pushed (so_far_plain (a_text p) h [] old mid new _ es is.so_far took);
      last = took.last;
    })

-- memory was wanted between two lines
pub reading_pauses : (p : ℕ) (h : Head) (b : Building) (old new : InputState) → IsReading p h b old new → RowsDid p old new (Err error.Memory)
reading_pauses p h b old new is = so_far_pauses (a_text p) (SaysRows p) old new _ _ is.so_far

pub plain_pauses : (p : ℕ) (h : Head) (b : Building) (es : List Entry) (old mid : InputState) (new : ReaderState) →
    IsReading p h b old mid → TookEntries p h mid.reader new es → RowsDid p old (input new mid.source) (Err error.Memory)
plain_pauses p h b es old mid new is took = reading_pauses p h (with_entries_pushed b es) old (input new mid.source) (reading_plain p h b _ es old mid new is took refl)

-- memory was wanted for the matrix, behind the header and behind an entry
pub header_pauses : (p : ℕ) (h : Head) (old new : InputState) →
    old.reader.open_text ≡ None → LineDid p Header old new (header_judged (Ok h)) → new.reader.open_text ≡ Some (h.m, h.n) → RowsDid p old new (Err error.Memory)
header_pauses p h old new closed did opened =
    reading_pauses p h (record { modulus = p; height = h.m; width = h.n; pushed = [] }) old new (reading_begins p h _ old new refl closed did opened)

pub entry_pauses : (p : ℕ) (h : Head) (b : Building) (e : Entry) (o : Option Entry) (old mid new : InputState) →
    IsReading p h b old mid → LineDid p (Body h.m h.n) mid new (entry_judged h (Ok o)) → LeavesOpen h p new.reader o → o ≡ Some e → RowsDid p old new (Err error.Memory)
entry_pauses p h b e o old mid new is did opened some =
    reading_pauses p h (record b { pushed = b.pushed ++ record { i = e.i; j = e.j; v = e.v } ∷ [] }) old new (reading_goes p h b _ e o old mid new is did opened some refl)

-- an entry leaves less room
pub entry_falls : (p : ℕ) (h : Head) (b : Building) (o : Option Entry) (old mid new : InputState) →
    IsReading p h b old mid → LineDid p (Body h.m h.n) mid new (entry_judged h (Ok o)) → new.reader.room < mid.reader.room
entry_falls p h b None old mid new is did =
    takes_room p (Body h.m h.n) mid new _ (line_takes p (Body h.m h.n) mid new (entry_judged h (Ok None)) is.so_far.stands.sound did)
entry_falls p h b (Some e) old mid new is did =
    takes_room p (Body h.m h.n) mid new _ (line_takes p (Body h.m h.n) mid new (entry_judged h (Ok (Some e))) is.so_far.stands.sound did)

-- the value at a place is the sum of what was pushed there
value_sum : (i j : ℕ) (ts : List Triple) (more : List Item) → value_at i j ((map triple_item ts ++ Closing ∷ []) ++ more) ≡ sum_at i j ts
value_sum i j [] more = refl
value_sum i j (t ∷ ts) more = ap (λ n. (if t.i == i && t.j == j then t.v else 0) + n) (value_sum i j ts more)

no_matrices : (p : ℕ) (ts : List Triple) (more : List Item) → matrices p ((map triple_item ts ++ Closing ∷ []) ++ more) ≡ matrices p more
no_matrices p [] more = refl
no_matrices p (t ∷ ts) more = no_matrices p ts more

-- a text is one matrix, which is built of its entries, whatever follows
whole_matrix : (p m n : ℕ) (ts : List Triple) (more : List Item) → matrices p ((Sizes m n ∷ (map triple_item ts ++ Closing ∷ [])) ++ more) ≡ built p m n ts ∷ matrices p more
whole_matrix p m n ts more = simp (value_sum, no_matrices)

-- it has no line of words
no_outer : (ts : List Triple) (more : List Item) → outer_lines ((map triple_item ts ++ Closing ∷ []) ++ more) ≡ outer_lines more
no_outer [] more = refl
no_outer (t ∷ ts) more = no_outer ts more

-- the matrix was made of what was pushed, or memory was wanted
abbrev pub IsMade : Building → Result ResidueMatrix TextError → Type 0
IsMade b (Ok A) = (A.modulus ≡ b.modulus) × (A.matrix ≡ built b.modulus b.height b.width b.pushed)
IsMade b (Err e) = e ≡ error.Memory

-- the closing line was read, and memory was wanted for the matrix or not
pub reading_closes : (p : ℕ) (h : Head) (b : Building) (o : Option Entry) (old mid new : InputState) (result : Result ResidueMatrix TextError) →
    IsReading p h b old mid → LineDid p (Body h.m h.n) mid new (entry_judged h (Ok o)) → LeavesOpen h p new.reader o → o ≡ None → IsMade b result → RowsDid p old new result
reading_closes p h b (Some e) old mid new result is did opened none made = absurd cc
reading_closes p h b None old mid new result is did opened none made =
    let due = Body h.m h.n in
    let t = line_takes p due mid new (entry_judged h (Ok None)) is.so_far.stands.sound did in
    closes result made (line_taken (a_text p) old mid new _ due [] is.so_far _ (takes_due p due mid new _ t) opened)
  where
    closes : (r : Result ResidueMatrix TextError) → IsMade b r → ReadSoFar (a_text p) old new ((Sizes h.m h.n ∷ map triple_item b.pushed) ++ Closing ∷ []) [] → RowsDid p old new r
    closes (Ok A) made s =
        let is_built : A.matrix ≡ built p h.m h.n b.pushed = made.1 ∙ rw (is.modulus, is.height, is.width) refl in
        so_far_ends (a_text p) (SaysRows p) old new _ [] A s (record {
          whole = refl;
          sizes = (map triple_item b.pushed ++ Closing ∷ [], ap (λ B. Sizes B.height B.width ∷ (map triple_item b.pushed ++ Closing ∷ [])) (sym is_built));
          matrix = λ more. whole_matrix p h.m h.n b.pushed more ∙ ap (λ B. B ∷ matrices p more) (sym is_built);
          inside = λ more. no_outer b.pushed more;
          modulus = made.0 ∙ is.modulus;
        })
    closes (Err e) made s = rw made (so_far_pauses (a_text p) (SaysRows p) old new _ [] s)

-- no entry was read
pub reading_stops : (p : ℕ) (h : Head) (b : Building) (old mid new : InputState) (e : TextError) →
    IsReading p h b old mid → LineDid p (Body h.m h.n) mid new (entry_judged h (Err e)) → RowsDid p old new (Err e)
reading_stops p h b old mid new e is did =
    let due = Body h.m h.n in
    let t = line_takes p due mid new (entry_judged h (Err e)) is.so_far.stands.sound did in
    line_missed (a_text p) old mid new _ due [] is.so_far (SaysRows p) e (misses_due p due mid new e t)

-- no header was read
pub header_stops : (p : ℕ) (old new : InputState) (e : TextError) → old.reader.open_text ≡ None → LineDid p Header old new (header_judged (Err e)) → RowsDid p old new (Err e)
header_stops p old new e closed did = first_line_missed p Header [] (SaysRows p) old new e closed did

-- Behind what was read so far a text is due, which was read as a matrix.
pub rows_taken : (w : Wanted) (rest : List Due) (old mid new : InputState) (items : List Item) (A : ResidueMatrix) → ReadSoFar w old mid items (Header ∷ rest) → open_at rest ≡ None → RowsDid w.modulus mid new (Ok A) →
    (more : List Item) × SaysRows w.modulus A more [] × ReadSoFar w old new (items ++ more) rest
rows_taken w rest old mid new items A s closed did =
    let r = part_reads (a_text w.modulus) (SaysRows w.modulus) mid new (Ok A) s.stands.sound did in
    let so_far = part_taken w (Header ∷ []) rest (SaysRows w.modulus) old mid new items s closed A r in
    let P : List Due → Type 0 = λ d. ReadSoFar w old new (items ++ r.reads.items) (d ++ rest) in
    (r.reads.items, subst (SaysRows w.modulus A r.reads.items) r.reads.means.whole r.reads.means, subst P r.reads.means.whole so_far)

-- it wasn't
pub rows_missed : {T : Type 0} (w : Wanted) (rest : List Due) (Means : T → List Item → List Due → Type 0) (old mid new : InputState) (items : List Item) (e : TextError) → ReadSoFar w old mid items (Header ∷ rest) → open_at rest ≡ None →
    RowsDid w.modulus mid new (Err e) → PartDid w Means old new (Err e)
rows_missed w rest Means old mid new items e s closed did = part_missed w (Header ∷ []) rest (SaysRows w.modulus) old mid new items s closed Means e did
