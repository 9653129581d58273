-- Parts of an input that take several calls of a reader: whole texts, and the lines of words outside of them.
use Rattle.std.specs.Prelude.{◌≡◌, ◌⊎◌, Bool, false, ℕ, List, [], ◌∷◌, ◌++◌, Option, None, Some, Result, MatchResult, map}
use Rattle.sms_text.specs.declared.kind.TextError.{TextError}
use Rattle.sms_text.specs.declared.kind.TextError.TheVariants as error
use Rattle.sms_text.specs.Text.{Due, Header, Body, Scripted, Outer, Item, Words, Fault, Short}
use Rattle.sms_text.specs.Reading.{ReaderState, InputState, MayFollow, Draws, Repeats, supply, is_failed, read_on, with_items}

-- the sizes of the text that is open where these lines are due
abbrev pub open_at : List Due → Option (ℕ × ℕ)
open_at [] = None
open_at (Header ∷ dues) = None
open_at (Body m n ∷ dues) = Some (m, n)
open_at (Scripted ∷ dues) = None
open_at (Outer form ∷ dues) = None

-- what a call is to read: these lines, with values modulo this
pub record Wanted : Type 0 where
  pub modulus : ℕ
  pub due : List Due

abbrev pub wants : ℕ → List Due → Wanted
wants p due = record { modulus = p; due = due }

-- what was read of it: the bytes that were taken, what they say, and which lines of it are due behind them
pub record WhatWasRead : Type 0 where
  pub taken : List ℕ
  pub items : List Item
  pub due : List Due

-- A reader read this part of what is wanted and stands between two lines: whatever comes behind the bytes at hand, and whichever lines are
-- due behind what is wanted, they say these items, and then what this reader says where the rest of it is due.
pub record IsBetween (w : Wanted) (old new : ReaderState) (part : WhatWasRead) : Type 0 where
  pub sound : new.error ≡ None
  pub opened : new.open_text ≡ open_at part.due
  pub reads : (ended : Bool) (more : List ℕ) (dues : List Due) → MayFollow new.ended ended more →
      read_on w.modulus ended (w.due ++ dues) old (part.taken ++ more)
      ≡ with_items part.items (read_on w.modulus ended (part.due ++ dues) new more)

-- Why it wasn't read: the line is the first at fault, whichever lines are due behind what is wanted; the source failed before it was
-- complete; or memory was wanted. The reader keeps the error, but where it wasn't the reader that wanted memory, it stands between two lines.
abbrev pub IsUnread : Wanted → ReaderState → ReaderState → List ℕ → TextError → Type 0
IsUnread w old new taken (error.Bad line k) = (new.error ≡ Some (error.Bad line k))
    × ((dues : List Due) → read_on w.modulus new.ended (w.due ++ dues) old taken ≡ Fault line k)
IsUnread w old new taken error.Read = (new.error ≡ Some error.Read)
    × ((dues : List Due) → read_on w.modulus new.ended (w.due ++ dues) old taken ≡ Short)
IsUnread w old new taken error.Memory = (new.error ≡ Some error.Memory)
    ⊎ ((items : List Item) × (due : List Due)
    × IsBetween w old new (record { taken = taken; items = items; due = due }))

-- the bytes are too few for what is wanted or a fault, whichever lines are due behind it
abbrev pub IsTooShort : Wanted → ReaderState → List ℕ → Type 0
IsTooShort w reader bytes =
    (dues : List Due) → read_on w.modulus false (w.due ++ dues) reader bytes ≡ Short

-- it was read, or its first lines, and this holds of what they say and of the lines that are due behind them
pub record IsReadAs (w : Wanted) (Means : List Item → List Due → Type 0)
    (old new : ReaderState) (taken : List ℕ) : Type 0 where
  pub items : List Item
  pub due : List Due
  pub stands : IsBetween w old new (record { taken = taken; items = items; due = due })
  pub means : Means items due

-- Of a call that was to read this: the bytes that it took from the source, and what they say, which means what the call answers.
pub record ReadsPart {T : Type 0} (w : Wanted) (Means : T → List Item → List Due → Type 0)
    (old new : InputState) (result : Result T TextError) : Type 0 where
  pub taken : List ℕ
  pub draws : Draws (IsTooShort w old.reader) (is_failed result) taken (supply old) (supply new)
  pub reads : MatchResult result
      (λ x. IsReadAs w (Means x) old.reader new.reader taken)
      (λ e. IsUnread w old.reader new.reader taken e)

-- an error that was kept is answered again
abbrev pub PartDid : {T : Type 0} → Wanted → (T → List Item → List Due → Type 0) →
    InputState → InputState → Result T TextError → Type 0
PartDid w Means old new result = elim old.reader.error [
  | None ↦ ReadsPart w Means old new result
  | Some e ↦ Repeats old new result e
]

-- as many lines of words as items, each of which is what the words of its line give
pub record SaysLines {T : Type 0} (of : List (List ℕ) → T) (list : List T) (items : List Item)
    (due : List Due)
    : Type 0 where
  pub whole : due ≡ []
  pub lines : List (List (List ℕ))
  pub items_are : items ≡ map Words lines
  pub list_is : list ≡ map of lines
