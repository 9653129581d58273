-- The words of an entry's line with what they spell.
use Rattle.std.specs.Prelude.{◌≡◌, true, ℕ, List, [], ◌∷◌, min, Result, Ok, Err, Some}
use Rattle.sms_text.specs.declared.kind.Kind.{Kind}
use Rattle.sms_text.specs.declared.reader.judge.SpelledEntry.{SpelledEntry}
use Rattle.sms_text.specs.declared.reader.judge.TheConstants.{CAP}
use Rattle.sms_text.specs.Numbers.{is_number, value}
use Rattle.sms_text.specs.Spelling.{SpelledAs}
use Rattle.sms_text.specs.Text.{body_of}

-- three words: two numbers, here up to the cap, and a value
pub record IsEntry (p : ℕ) (ws : List (List ℕ)) (e : SpelledEntry) : Type 0 where
  pub words : ws ≡ e.words.first.now ∷ e.words.second.now ∷ e.words.third.now ∷ []
  pub first : is_number e.words.first.now ≡ true
  pub i : e.i ≡ min (value e.words.first.now) CAP
  pub second : is_number e.words.second.now ≡ true
  pub j : e.j ≡ min (value e.words.second.now) CAP
  pub third : SpelledAs p e.words.third.now (Some e.value)

-- or words that spell no entry, which has this kind
abbrev pub EntryDid : ℕ → List (List ℕ) → Result SpelledEntry Kind → Type 0
EntryDid p ws (Ok e) = IsEntry p ws e
EntryDid p ws (Err k) = (m n : ℕ) → body_of p m n ws ≡ Err k
