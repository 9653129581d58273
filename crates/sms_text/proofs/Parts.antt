-- Parts of an input read one after another: lines that are due, lines of words, and whole texts.
use Rattle.std.proofs.Common.{ℕ, ◌≡◌, ◌+◌, Bool, true, false, cond, List, [], ◌∷◌, ◌++◌, Option, None, Some, Result, Ok, Err, refl, sym, ap, ◌∙◌, subst, inl, inr, append_assoc, append-nil}
use Rattle.std.proofs.lemmas.Result.{err_from_is_err_and}
use Rattle.std.specs.Result.{IsErrAnd}
use Rattle.sms_text.specs.declared.kind.Kind.{Kind}
use Rattle.sms_text.specs.declared.kind.TextError.{TextError}
use Rattle.sms_text.specs.declared.kind.TextError.TheVariants as error
use Rattle.sms_text.specs.Lines.{Line, lines}
use Rattle.sms_text.specs.OuterLines.{LineForm, has_form, fault_of}
use Rattle.sms_text.specs.Text.{Due, Header, Body, Scripted, Outer, Item, Words, Judged, judge, due_behind}
use Rattle.sms_text.specs.Parts.{open_at, Wanted, wants, IsBetween, IsUnread, IsTooShort, ReadsPart, PartDid}
use Rattle.sms_text.specs.Reading.{ReaderState, InputState, MayFollow, Draws, TakesLine, MissesLine, LineDid, TakesWords, MissesWords, GetsWords, WordsDid, WordLine, Repeats, HasCause, HasReason, One, Took, Faulty, Next, Filled, IsUnfinished, IsUnknown, input, supply, judged, due_line, next_line, read_on, is_read, with_items}
use Rattle.sms_text.proofs.Moving.{draws_none, draws_with, draws_on, draws_follow, draws_reach, may_come, stays_at}
use Rattle.sms_text.proofs.Runs.{after_one, read_one, unfinished_reads, with_items_push, with_items_twice, with_items_fault, with_items_short}

-- what a call did whose reader kept this error, or none
abbrev PartIf : {T : Type 0} → Wanted → (T → List Item → List Due → Type 0) → InputState → InputState → Result T TextError → Option TextError → Type 0
PartIf w Means old new result None = ReadsPart w Means old new result
PartIf w Means old new result (Some e) = Repeats old new result e

abbrev LineIf : ℕ → Due → InputState → InputState → TextError → Option TextError → Type 0
LineIf p due old new e None = MissesLine p due old new e
LineIf p due old new e (Some d) = Repeats {T = Judged} old new (Err e) d

abbrev WordsIf : InputState → InputState → TextError → Option TextError → Type 0
WordsIf old new e None = MissesWords old new e
WordsIf old new e (Some d) = Repeats {T = WordLine} old new (Err e) d

-- of a reader that was sound
pub part_did : {T : Type 0} (w : Wanted) (Means : T → List Item → List Due → Type 0) (old new : InputState) (result : Result T TextError) →
    old.reader.error ≡ None → ReadsPart w Means old new result → PartDid w Means old new result
part_did w Means old new result sound h =
    subst (PartIf w Means old new result) (sym sound) h

pub part_reads : {T : Type 0} (w : Wanted) (Means : T → List Item → List Due → Type 0) (old new : InputState) (result : Result T TextError) →
    old.reader.error ≡ None → PartDid w Means old new result → ReadsPart w Means old new result
part_reads w Means old new result sound h =
    subst (PartIf w Means old new result) sound h

-- a call that read its part found the reader sound
pub part_sound : {T : Type 0} (w : Wanted) (Means : T → List Item → List Due → Type 0) (old new : InputState) (x : T) → PartDid w Means old new (Ok x) → old.reader.error ≡ None
part_sound w Means old new x =
    elim old.reader.error as (λ o. PartIf w Means old new (Ok x) o → o ≡ None)
    [ None ↦ λ t. refl | Some e ↦ λ h. absurd (let y = h.0 in cc) ]

-- an error that is handed on
pub part_handed : {T : Type 0} (w : Wanted) (Means : T → List Item → List Due → Type 0) (old new : InputState) (e : TextError) (result : Result T TextError) →
    IsErrAnd result (λ d. d ≡ e) → PartDid w Means old new (Err e) → PartDid w Means old new result
part_handed w Means old new e result handed did =
    let fault = err_from_is_err_and result handed in
    subst (PartDid w Means old new) (ap Err (sym fault.2) ∙ sym fault.1) did

-- calls of a reader, which was sound, read so much of what is wanted: these items, and then these lines of it are due
pub record ReadSoFar (w : Wanted) (old new : InputState) (items : List Item) (due : List Due) : Type 0 where
  pub begun : old.reader.error ≡ None
  pub taken : List ℕ
  pub draws : Draws (IsTooShort w old.reader) false taken (supply old) (supply new)
  pub stands : IsBetween w old.reader new.reader (record { taken = taken; items = items; due = due })

-- the line that is due was taken, or not, as calls say it that keep a line for refusal and those that don't
pub record TakesDue (p : ℕ) (due : Due) (old new : InputState) (j : Judged) : Type 0 where
  pub taken : List ℕ
  pub draws : Draws (IsUnfinished p due old.reader) false taken (supply old) (supply new)
  pub error : new.reader.error ≡ None
  pub reads : (ended : Bool) (more : List ℕ) → MayFollow new.reader.ended ended more →
      due_line p ended due old.reader (taken ++ more) ≡ Took j new.reader.room new.reader.number (lines (new.reader.kept ++ more))

pub record MissesDue (p : ℕ) (due : Due) (old new : InputState) (e : TextError) : Type 0 where
  pub taken : List ℕ
  pub draws : Draws (IsUnfinished p due old.reader) (is_read e) taken (supply old) (supply new)
  pub error : new.reader.error ≡ Some e
  pub cause : HasCause e (due_line p new.reader.ended due old.reader taken)

pub takes_due : (p : ℕ) (due : Due) (old new : InputState) (j : Judged) → TakesLine p due old new j → TakesDue p due old new j
takes_due p due old new j t = record { taken = t.taken; draws = t.draws; error = t.error; reads = t.reads }

pub misses_due : (p : ℕ) (due : Due) (old new : InputState) (e : TextError) → MissesLine p due old new e → MissesDue p due old new e
misses_due p due old new e t = record { taken = t.taken; draws = t.draws; error = t.error; cause = t.cause }

-- nothing was read yet
pub so_far_begins : (w : Wanted) (s : InputState) → s.reader.error ≡ None → s.reader.open_text ≡ open_at w.due → ReadSoFar w s s [] w.due
so_far_begins w s sound opened = record {
  begun = sound;
  taken = [];
  draws = draws_none (IsTooShort w s.reader) (supply s);
  stands = record { sound = sound; opened = opened; reads = λ ended more dues h. refl };
}

-- memory was wanted between two lines
pub so_far_pauses : {T : Type 0} (w : Wanted) (Means : T → List Item → List Due → Type 0) (old new : InputState) (items : List Item) (due : List Due) →
    ReadSoFar w old new items due → PartDid w Means old new (Err error.Memory)
so_far_pauses w Means old new items due s = part_did w Means old new (Err error.Memory) s.begun (record { taken = s.taken; draws = s.draws; reads = inr (items, due, s.stands) })

-- what was read means this
pub so_far_ends : {T : Type 0} (w : Wanted) (Means : T → List Item → List Due → Type 0) (old new : InputState) (items : List Item) (due : List Due) (x : T) →
    ReadSoFar w old new items due → Means x items due → PartDid w Means old new (Ok x)
so_far_ends w Means old new items due x s means = part_did w Means old new (Ok x) s.begun (record {
  taken = s.taken;
  draws = s.draws;
  reads = record { items = items; due = due; stands = s.stands; means = means };
})

-- Behind what was read so far a line is due, and others behind it.
module _ (w : Wanted) (old mid new : InputState) (items : List Item) (due : Due) (rest : List Due) (s : ReadSoFar w old mid items (due ∷ rest)) where
  -- too few bytes for the line are too few for what is wanted
  line_short : (more : List ℕ) → mid.reader.ended ≡ false → IsUnfinished w.modulus due mid.reader more → IsTooShort w old.reader (s.taken ++ more)
  line_short more going few = λ dues.
      unfinished_reads w.modulus due (rest ++ dues) items mid.reader more _ few (s.stands.reads false more dues (may_come mid.reader.ended false more going))

  line_draws : (x : Bool) (more : List ℕ) → Draws (IsUnfinished w.modulus due mid.reader) x more (supply mid) (supply new) →
      Draws (IsTooShort w old.reader) x (s.taken ++ more) (supply old) (supply new)
  line_draws x more next = draws_on (IsTooShort w old.reader) (IsUnfinished w.modulus due mid.reader) x s.taken more (supply old) (supply mid) (supply new) line_short s.draws next

  -- it was taken
  pub line_taken : (j : Judged) → TakesDue w.modulus due mid new j → new.reader.open_text ≡ open_at (j.due ++ rest) → ReadSoFar w old new (items ++ j.item ∷ []) (j.due ++ rest)
  line_taken j t opened = record {
    begun = s.begun;
    taken = s.taken ++ t.taken;
    draws = line_draws false t.taken t.draws;
    stands = record {
      sound = t.error;
      opened = opened;
      reads = λ ended more dues h.
          ap (read_on w.modulus ended (w.due ++ dues) old.reader) (append_assoc s.taken t.taken more)
          ∙ s.stands.reads ended (t.taken ++ more) dues (draws_follow (IsUnfinished w.modulus due mid.reader) false t.taken (supply mid) (supply new) ended more t.draws h)
          ∙ ap (with_items items) (read_one w.modulus ended mid.reader.room mid.reader.number due (rest ++ dues) (lines (mid.reader.kept ++ (t.taken ++ more)))
          ∙ ap (after_one w.modulus ended (rest ++ dues)) (t.reads ended more h))
          ∙ sym (with_items_push items j.item (read_on w.modulus ended (j.due ++ (rest ++ dues)) new.reader more))
          ∙ ap (λ ds. with_items (items ++ j.item ∷ []) (read_on w.modulus ended ds new.reader more)) (sym (append_assoc j.due rest dues));
    };
  }

  -- why the bytes at hand give no more
  cause_reads : (bytes : List ℕ) (e : TextError) (what : One) → new.reader.error ≡ Some e →
      ((dues : List Due) → read_on w.modulus new.reader.ended (w.due ++ dues) old.reader bytes ≡ with_items items (after_one w.modulus new.reader.ended (rest ++ dues) what)) →
      HasCause e what → IsUnread w old.reader new.reader bytes e
  cause_reads bytes (error.Bad line k) what kept reads cause =
      (kept, λ dues. reads dues ∙ ap (λ o. with_items items (after_one w.modulus new.reader.ended (rest ++ dues) o)) cause ∙ with_items_fault items line k)
  cause_reads bytes error.Read what kept reads cause =
      (kept, λ dues. reads dues ∙ ap (λ o. with_items items (after_one w.modulus new.reader.ended (rest ++ dues) o)) cause ∙ with_items_short items)
  cause_reads bytes error.Memory what kept reads cause = inl kept

  -- it wasn't taken
  pub line_missed : {T : Type 0} (Means : T → List Item → List Due → Type 0) (e : TextError) → MissesDue w.modulus due mid new e → PartDid w Means old new (Err e)
  line_missed Means e t = part_did w Means old new (Err e) s.begun (record {
    taken = s.taken ++ t.taken;
    draws = line_draws (is_read e) t.taken t.draws;
    reads = cause_reads (s.taken ++ t.taken) e (due_line w.modulus new.reader.ended due mid.reader t.taken) t.error (λ dues.
        s.stands.reads new.reader.ended t.taken dues (draws_reach (IsUnfinished w.modulus due mid.reader) (is_read e) t.taken (supply mid) (supply new) t.draws)
        ∙ ap (with_items items) (read_one w.modulus new.reader.ended mid.reader.room mid.reader.number due (rest ++ dues) (lines (mid.reader.kept ++ t.taken)))) t.cause;
  })

-- what is open where lines are due, and others behind them
opened_by : (due rest : List Due) → open_at rest ≡ None → open_at due ≡ open_at (due ++ rest)
opened_by [] rest h = sym h
opened_by (Header ∷ due) rest h = refl
opened_by (Body m n ∷ due) rest h = refl
opened_by (Scripted ∷ due) rest h = refl
opened_by (Outer form ∷ due) rest h = refl

-- Behind what was read so far these lines are due, which one call is to read, and others behind them.
module _ {T : Type 0} (w : Wanted) (part rest : List Due) (Means : T → List Item → List Due → Type 0) (old mid new : InputState) (items : List Item)
    (s : ReadSoFar w old mid items (part ++ rest)) (closed : open_at rest ≡ None) where
  -- what is wanted says what was read, and then what the part says
  part_reads_on : (ended : Bool) (more : List ℕ) (dues : List Due) → MayFollow mid.reader.ended ended more →
      read_on w.modulus ended (w.due ++ dues) old.reader (s.taken ++ more) ≡ with_items items (read_on w.modulus ended (part ++ (rest ++ dues)) mid.reader more)
  part_reads_on ended more dues h = s.stands.reads ended more dues h ∙ ap (λ ds. with_items items (read_on w.modulus ended ds mid.reader more)) (append_assoc part rest dues)

  part_short : (more : List ℕ) → mid.reader.ended ≡ false → IsTooShort (wants w.modulus part) mid.reader more → IsTooShort w old.reader (s.taken ++ more)
  part_short more going few = λ dues.
      part_reads_on false more dues (may_come mid.reader.ended false more going) ∙ ap (with_items items) (few (rest ++ dues)) ∙ with_items_short items

  part_draws : (x : Bool) (more : List ℕ) → Draws (IsTooShort (wants w.modulus part) mid.reader) x more (supply mid) (supply new) →
      Draws (IsTooShort w old.reader) x (s.taken ++ more) (supply old) (supply new)
  part_draws x more next = draws_on (IsTooShort w old.reader) (IsTooShort (wants w.modulus part) mid.reader) x s.taken more (supply old) (supply mid) (supply new) part_short s.draws next

  -- the reader stands between two lines of the part
  part_stands : (x : Bool) (taken : List ℕ) (items' : List Item) (due : List Due) → Draws (IsTooShort (wants w.modulus part) mid.reader) x taken (supply mid) (supply new) →
      IsBetween (wants w.modulus part) mid.reader new.reader (record { taken = taken; items = items'; due = due }) →
      IsBetween w old.reader new.reader (record { taken = s.taken ++ taken; items = items ++ items'; due = due ++ rest })
  part_stands x taken items' due draws b = record {
    sound = b.sound;
    opened = b.opened ∙ opened_by due rest closed;
    reads = λ ended more dues h.
        ap (read_on w.modulus ended (w.due ++ dues) old.reader) (append_assoc s.taken taken more)
        ∙ part_reads_on ended (taken ++ more) dues (draws_follow (IsTooShort (wants w.modulus part) mid.reader) x taken (supply mid) (supply new) ended more draws h)
        ∙ ap (with_items items) (b.reads ended more (rest ++ dues) h)
        ∙ sym (with_items_twice items items' (read_on w.modulus ended (due ++ (rest ++ dues)) new.reader more))
        ∙ ap (λ ds. with_items (items ++ items') (read_on w.modulus ended ds new.reader more)) (sym (append_assoc due rest dues));
  }

  -- they were read
  pub part_taken : (x : T) (r : ReadsPart (wants w.modulus part) Means mid new (Ok x)) → ReadSoFar w old new (items ++ r.reads.items) (r.reads.due ++ rest)
  part_taken x r = record {
    begun = s.begun;
    taken = s.taken ++ r.taken;
    draws = part_draws false r.taken r.draws;
    stands = part_stands false r.taken r.reads.items r.reads.due r.draws r.reads.stands;
  }

  part_unread : (x : Bool) (taken : List ℕ) (e : TextError) → Draws (IsTooShort (wants w.modulus part) mid.reader) x taken (supply mid) (supply new) →
      IsUnread (wants w.modulus part) mid.reader new.reader taken e → IsUnread w old.reader new.reader (s.taken ++ taken) e
  part_unread x taken (error.Bad line k) draws u = (
    u.0,
    λ dues. part_reads_on new.reader.ended taken dues (draws_reach (IsTooShort (wants w.modulus part) mid.reader) x taken (supply mid) (supply new) draws)
        ∙ ap (with_items items) (u.1 (rest ++ dues)) ∙ with_items_fault items line k,
  )
  part_unread x taken error.Read draws u = (
    u.0,
    λ dues. part_reads_on new.reader.ended taken dues (draws_reach (IsTooShort (wants w.modulus part) mid.reader) x taken (supply mid) (supply new) draws)
        ∙ ap (with_items items) (u.1 (rest ++ dues)) ∙ with_items_short items,
  )
  part_unread x taken error.Memory draws (inl kept) = inl kept
  part_unread x taken error.Memory draws (inr (more, due, b)) = inr (items ++ more, due ++ rest, part_stands x taken more due draws b)

  -- they weren't
  pub part_missed : {U : Type 0} (All : U → List Item → List Due → Type 0) (e : TextError) → PartDid (wants w.modulus part) Means mid new (Err e) → PartDid w All old new (Err e)
  part_missed All e did =
      let r = part_reads (wants w.modulus part) Means mid new (Err e) s.stands.sound did in
      part_did w All old new (Err e) s.begun (record { taken = s.taken ++ r.taken; draws = part_draws (is_read e) r.taken r.draws; reads = part_unread (is_read e) r.taken e r.draws r.reads })

-- the first part wasn't read
pub first_missed : {T U : Type 0} (p : ℕ) (part rest : List Due) (Means : T → List Item → List Due → Type 0) (All : U → List Item → List Due → Type 0) (old new : InputState) (e : TextError) →
    old.reader.open_text ≡ open_at (part ++ rest) → open_at rest ≡ None → PartDid (wants p part) Means old new (Err e) → PartDid (wants p (part ++ rest)) All old new (Err e)
first_missed {T} {U} p part rest Means All old new e opened closed did =
    elim old.reader.error as (λ o. old.reader.error ≡ o → PartIf {T = T} (wants p part) Means old new (Err e) o → PartIf {T = U} (wants p (part ++ rest)) All old new (Err e) o) [
      | None ↦ λ sound t.
          let begun = so_far_begins (wants p (part ++ rest)) old sound opened in
          part_reads (wants p (part ++ rest)) All old new (Err e) sound
          (part_missed (wants p (part ++ rest)) part rest Means old old new [] begun closed All e (part_did (wants p part) Means old new (Err e) sound t))
      | Some d ↦ λ kept h. (let x = h.0 in let same : e ≡ d = cc in ap Err same, h.1)
    ] refl did

-- the first line that is wanted wasn't read
pub first_line_missed : {T : Type 0} (p : ℕ) (due : Due) (rest : List Due) (Means : T → List Item → List Due → Type 0) (old new : InputState) (e : TextError) →
    old.reader.open_text ≡ open_at (due ∷ rest) → LineDid p due old new (Err e) → PartDid (wants p (due ∷ rest)) Means old new (Err e)
first_line_missed {T} p due rest Means old new e opened did =
    let w = wants p (due ∷ rest) in
    elim old.reader.error as (λ o. old.reader.error ≡ o → LineIf p due old new e o → PartIf {T = T} w Means old new (Err e) o) [
      | None ↦ λ sound t. part_reads w Means old new (Err e) sound
          (line_missed w old old new [] due rest (so_far_begins w old sound opened) Means e (misses_due p due old new e t))
      | Some d ↦ λ kept h. (let x = h.0 in let same : e ≡ d = cc in ap Err same, h.1)
    ] refl did

-- of a reader of words that is sound
pub words_taken : (old new : InputState) (result : Result WordLine TextError) → old.reader.error ≡ None → WordsDid old new result → GetsWords old new result
words_taken old new result sound h =
    let P : Option TextError → Type 0 = λ o. elim o [ None ↦ GetsWords old new result | Some e ↦ Repeats old new result e ] in subst P sound h

-- a call that took a line of words found the reader sound
pub words_sound : (old new : InputState) (line : WordLine) → WordsDid old new (Ok line) → old.reader.error ≡ None
words_sound old new line =
    elim old.reader.error as (λ o. elim o [ None ↦ TakesWords old new line | Some e ↦ Repeats old new (Ok line) e ] → o ≡ None)
    [ None ↦ λ t. refl | Some e ↦ λ h. absurd (let x = h.0 in cc) ]

-- a line of words that has its form, and one that hasn't
test_passed : {A : Type 0} (b : Bool) (x y : A) → b ≡ true → cond b x y ≡ x
test_passed b x y h = rw h refl

test_failed : {A : Type 0} (b : Bool) (x y : A) → b ≡ false → cond b x y ≡ y
test_failed b x y h = rw h refl

pub outer_says : (p : ℕ) (form : LineForm) (ws : List (List ℕ)) → has_form p form ws ≡ true → judge p (Outer form) ws ≡ Ok (record { item = Words ws; due = due_behind form ws })
outer_says p form ws fits = test_passed (has_form p form ws) _ _ fits

outer_finds : (p : ℕ) (form : LineForm) (ws : List (List ℕ)) → has_form p form ws ≡ false → judge p (Outer form) ws ≡ Err (fault_of form)
outer_finds p form ws fails = test_failed (has_form p form ws) _ _ fails

judged_by : (p : ℕ) (due : Due) (number room : ℕ) (ws : List (List ℕ)) (ls : List Line) (r : Result Judged Kind) → judge p due ws ≡ r →
    judged p due (Filled number ws room ls) ≡ elim r [ Ok j ↦ Took j room (number + 1) ls | Err k ↦ Faulty number k ]
judged_by p due number room ws ls r h = ap (λ s. elim s [ Ok j ↦ Took j room (number + 1) ls | Err k ↦ Faulty number k ]) h

-- A line of words is the line that is due, whichever form it is to have.
module _ (p : ℕ) (form : LineForm) (old new : InputState) where
  words_few : (more : List ℕ) → IsUnknown old.reader more → IsUnfinished p (Outer form) old.reader more
  words_few more few = ap (judged p (Outer form)) few

  words_draw : (x : Bool) (taken : List ℕ) → Draws (IsUnknown old.reader) x taken (supply old) (supply new) → Draws (IsUnfinished p (Outer form) old.reader) x taken (supply old) (supply new)
  words_draw x taken d = draws_with (IsUnknown old.reader) (IsUnfinished p (Outer form) old.reader) x taken (supply old) (supply new) words_few d

  -- one that has its form
  outer_takes : (line : WordLine) → TakesWords old new line → has_form p form line.words ≡ true →
      TakesDue p (Outer form) old new (record { item = Words line.words; due = due_behind form line.words })
  outer_takes line t fits = record {
    taken = t.taken;
    draws = words_draw false t.taken t.draws;
    error = t.error;
    reads = λ ended more h.
        ap (judged p (Outer form)) (t.reads ended more h) ∙ judged_by p (Outer form) line.number new.reader.room line.words _ _ (outer_says p form line.words fits)
        ∙ ap (λ n. Took (record { item = Words line.words; due = due_behind form line.words }) new.reader.room n (lines (new.reader.kept ++ more))) (sym t.number);
  }

  -- one that hasn't is at fault, once the reader was told so
  outer_refused : (line : WordLine) → TakesWords old new line → has_form p form line.words ≡ false → (after : ReaderState) → after ≡ record new.reader { error = Some (error.Bad line.number (fault_of form)); last = None } →
      MissesDue p (Outer form) old (input after new.source) (error.Bad line.number (fault_of form))
  outer_refused line t fails after is = rw is (record {
    taken = t.taken;
    draws = words_draw false t.taken t.draws;
    error = refl;
    cause = ap (due_line p new.reader.ended (Outer form) old.reader) (sym (append-nil t.taken))
        ∙ ap (judged p (Outer form)) (t.reads new.reader.ended [] (stays_at new.reader.ended)) ∙ judged_by p (Outer form) line.number new.reader.room line.words _ _ (outer_finds p form line.words fails);
  })

  -- none was read
  no_words : (e : TextError) (what : Next) → HasReason e what → HasCause e (judged p (Outer form) what)
  no_words (error.Bad line k) what (inl long) = ap (judged p (Outer form)) long.0 ∙ rw long.1 refl
  no_words (error.Bad line k) what (inr missing) = ap (judged p (Outer form)) missing.0 ∙ rw missing.1 refl
  no_words error.Read what h = ap (judged p (Outer form)) h
  no_words error.Memory what h = tt

  outer_misses : (e : TextError) → MissesWords old new e → MissesDue p (Outer form) old new e
  outer_misses e t = record {
    taken = t.taken;
    draws = words_draw (is_read e) t.taken t.draws;
    error = t.error;
    cause = no_words e (next_line new.reader.ended old.reader t.taken) t.reason;
  }

-- Behind what was read so far an outer line is due.
module _ (w : Wanted) (form : LineForm) (rest : List Due) (old mid new : InputState) (items : List Item) (s : ReadSoFar w old mid items (Outer form ∷ rest)) where
  -- it came
  pub outer_taken : (line : WordLine) → WordsDid mid new (Ok line) → has_form w.modulus form line.words ≡ true → new.reader.open_text ≡ open_at (due_behind form line.words ++ rest) →
      ReadSoFar w old new (items ++ Words line.words ∷ []) (due_behind form line.words ++ rest)
  outer_taken line did fits opened =
      line_taken w old mid new items (Outer form) rest s (record { item = Words line.words; due = due_behind form line.words })
      (outer_takes w.modulus form mid new line (words_taken mid new (Ok line) s.stands.sound did) fits) opened

  -- another came, and was refused
  pub outer_unfit : {T : Type 0} (Means : T → List Item → List Due → Type 0) (line : WordLine) (e : TextError) (after : ReaderState) → WordsDid mid new (Ok line) → has_form w.modulus form line.words ≡ false →
      e ≡ error.Bad line.number (fault_of form) → after ≡ record new.reader { error = Some e; last = None } → PartDid w Means old (input after new.source) (Err e)
  outer_unfit Means line e after did fails is told =
      rw is (line_missed w old mid (input after new.source) items (Outer form) rest s Means (error.Bad line.number (fault_of form))
      (outer_refused w.modulus form mid new line (words_taken mid new (Ok line) s.stands.sound did) fails after (told ∙ ap (λ d. record new.reader { error = Some d; last = None }) is)))

  -- none came
  pub outer_missing : {T : Type 0} (Means : T → List Item → List Due → Type 0) (e : TextError) → WordsDid mid new (Err e) → PartDid w Means old new (Err e)
  outer_missing Means e did =
      line_missed w old mid new items (Outer form) rest s Means e (outer_misses w.modulus form mid new e (words_taken mid new (Err e) s.stands.sound did))

-- the first line that is wanted is an outer line, and none came
pub first_outer_missing : {T : Type 0} (p : ℕ) (form : LineForm) (rest : List Due) (Means : T → List Item → List Due → Type 0) (old new : InputState) (e : TextError) →
    old.reader.open_text ≡ None → WordsDid old new (Err e) → PartDid (wants p (Outer form ∷ rest)) Means old new (Err e)
first_outer_missing {T} p form rest Means old new e opened did =
    let w = wants p (Outer form ∷ rest) in
    elim old.reader.error as (λ o. old.reader.error ≡ o → WordsIf old new e o → PartIf {T = T} w Means old new (Err e) o) [
      | None ↦ λ sound t. part_reads w Means old new (Err e) sound
          (line_missed w old old new [] (Outer form) rest (so_far_begins w old sound opened) Means e (outer_misses p form old new e t))
      | Some d ↦ λ kept h. (let x = h.0 in let same : e ≡ d = cc in ap Err same, h.1)
    ] refl did

-- it came
pub first_outer_shown : {T : Type 0} (p : ℕ) (form : LineForm) (Means : T → List Item → List Due → Type 0) (old new : InputState) (line : WordLine) (x : T) →
    old.reader.open_text ≡ None → WordsDid old new (Ok line) → has_form p form line.words ≡ true → new.reader.open_text ≡ open_at (due_behind form line.words) →
    Means x (Words line.words ∷ []) (due_behind form line.words) → PartDid (wants p (Outer form ∷ [])) Means old new (Ok x)
first_outer_shown p form Means old new line x closed did fits opened means =
    let w = wants p (Outer form ∷ []) in
    let s = outer_taken w form [] old old new [] (so_far_begins w old (words_sound old new line did) closed) line did fits (opened ∙ ap open_at (sym (append-nil (due_behind form line.words)))) in
    so_far_ends w Means old new (Words line.words ∷ []) (due_behind form line.words) x (subst (λ d. ReadSoFar w old new (Words line.words ∷ []) d) (append-nil (due_behind form line.words)) s) means

-- another came, and was refused
pub first_outer_unfit : {T : Type 0} (p : ℕ) (form : LineForm) (rest : List Due) (Means : T → List Item → List Due → Type 0) (old new : InputState) (line : WordLine) (e : TextError) (after : ReaderState) →
    old.reader.open_text ≡ None → WordsDid old new (Ok line) → has_form p form line.words ≡ false → e ≡ error.Bad line.number (fault_of form) → after ≡ record new.reader { error = Some e; last = None } →
    PartDid (wants p (Outer form ∷ rest)) Means old (input after new.source) (Err e)
first_outer_unfit p form rest Means old new line e after closed did fails is told =
    let w = wants p (Outer form ∷ rest) in
    outer_unfit w form rest old old new [] (so_far_begins w old (words_sound old new line did) closed) Means line e after did fails is told
