-- One line of a script, read or not.
use Rattle.std.proofs.Common.{ℕ, ◌≡◌, ◌+◌, ◌<◌, Bool, true, false, cond, List, [], ◌∷◌, ◌++◌, None, Some, Ok, Err, refl, sym, ap, ◌∙◌, append-nil}
use Rattle.sms_text.specs.declared.kind.Kind.TheVariants as kind
use Rattle.sms_text.specs.declared.kind.TextError.{TextError}
use Rattle.sms_text.specs.declared.kind.TextError.TheVariants as error
use Rattle.sms_text.specs.Lines.{lines}
use Rattle.sms_text.specs.OuterLines as form
use Rattle.sms_text.specs.OuterLines.{LineForm, has_form, is_script, is_script_end}
use Rattle.sms_text.specs.Parts.{PartDid, open_at, wants}
use Rattle.sms_text.specs.Reading.{Faulty, InputState, IsUnfinished, IsUnknown, ReaderState, Took, WordLine, WordsDid, input, judged, supply}
use Rattle.sms_text.specs.Text.{Outer, Words, due_behind}
use Rattle.sms_text.proofs.Falling.{takes_room}
use Rattle.sms_text.proofs.Moving.{draws_with}
use Rattle.sms_text.proofs.Parts.{first_outer_missing, first_outer_shown, first_outer_unfit, outer_says, outer_taken, so_far_begins, so_far_pauses, words_sound, words_taken}
use Rattle.grow_form.specs.declared.script.ScriptLine.{ScriptLine}
use Rattle.grow_form.specs.Script.{IsScriptLine}
use Rattle.grow_form.specs.Scripts.{SaysStep}

-- a line of words that has its form leaves less room
pub words_room : (p : ℕ) (form : LineForm) (old new : InputState) (line : WordLine) → WordsDid old new (Ok line) → has_form p form line.words ≡ true → new.reader.room < old.reader.room
words_room p form old new line did fits =
    let t = words_taken old new (Ok line) (words_sound old new line did) did in
    let bare : ReaderState = record new.reader { last = None } in
    takes_room p (Outer form) old (input bare new.source) (record { item = Words line.words; due = due_behind form line.words }) (record {
      taken = t.taken;
      draws = draws_with (IsUnknown old.reader) (IsUnfinished p (Outer form) old.reader) false t.taken (supply old) (supply new) (λ more few. ap (judged p (Outer form)) few) t.draws;
      error = t.error;
      last = refl;
      reads = λ ended more h.
          ap (judged p (Outer form)) (t.reads ended more h)
          ∙ ap (λ r. elim r [ Ok j ↦ Took j new.reader.room (line.number + 1) (lines (new.reader.kept ++ more)) | Err k ↦ Faulty line.number k ]) (outer_says p form line.words fits)
          ∙ ap (λ n. Took (record { item = Words line.words; due = due_behind form line.words }) new.reader.room n (lines (new.reader.kept ++ more))) (sym t.number);
    })

-- no text is open behind a line of a script
script_closed : (n : ℕ) (ws : List (List ℕ)) → open_at (due_behind (form.Script n) ws) ≡ None
script_closed n ws = by_last (is_script_end ws)
  where
    by_last : (b : Bool) → open_at (cond b [] (Outer (form.Script n) ∷ [])) ≡ None
    by_last true = refl
    by_last false = refl

-- A line of words came, or none did, where a line of a script is due.
module _ (p n : ℕ) (old new : InputState) (closed : old.reader.open_text ≡ None) where
  -- it is one
  pub step_shown : (line : WordLine) (step : ScriptLine) → WordsDid old new (Ok line) → new.reader.open_text ≡ None → IsScriptLine p n line.words step →
      PartDid (wants p (Outer (form.Script n) ∷ [])) (SaysStep p n) old new (Ok step)
  step_shown line step did shut is =
      first_outer_shown p (form.Script n) (SaysStep p n) old new line step closed did is.test (shut ∙ sym (script_closed n line.words))
      (record { words = line.words; items_are = refl; due_are = refl; line = is })

  -- it is none
  pub step_unfit : (line : WordLine) (e : TextError) (after : ReaderState) → WordsDid old new (Ok line) → is_script p n line.words ≡ false → e ≡ error.Bad line.number kind.Script →
      after ≡ record new.reader { error = Some e; last = None } → PartDid (wants p (Outer (form.Script n) ∷ [])) (SaysStep p n) old (input after new.source) (Err e)
  step_unfit line e after did fails is told = first_outer_unfit p (form.Script n) [] (SaysStep p n) old new line e after closed did fails is told

  -- memory was wanted for what it asks for
  pub step_pauses : (line : WordLine) → WordsDid old new (Ok line) → new.reader.open_text ≡ None → is_script p n line.words ≡ true →
      PartDid (wants p (Outer (form.Script n) ∷ [])) (SaysStep p n) old new (Err error.Memory)
  step_pauses line did shut fits =
      let w = wants p (Outer (form.Script n) ∷ []) in
      let due = due_behind (form.Script n) line.words in
      so_far_pauses w (SaysStep p n) old new (Words line.words ∷ []) (due ++ [])
      (outer_taken w (form.Script n) [] old old new [] (so_far_begins w old (words_sound old new line did) closed) line did fits
      (shut ∙ sym (ap open_at (append-nil due) ∙ script_closed n line.words)))

  -- there is none
  pub step_missing : (e : TextError) → WordsDid old new (Err e) → PartDid (wants p (Outer (form.Script n) ∷ [])) (SaysStep p n) old new (Err e)
  step_missing e did = first_outer_missing p (form.Script n) [] (SaysStep p n) old new e closed did
