-- Entry lines that stand in the bytes at hand, plainly spelled.
use Rattle.std.specs.Prelude.{◌≡◌, ◌⊎◌, ◌<◌, ◌≤◌, ◌+◌, ◌-◌, Bool, true, false, ℕ, List, [], ◌∷◌, ◌++◌, length, drop, map, All, Ok, None}
use Rattle.sparse_rows.specs.Rows.{Building, Triple}
use Rattle.sms_text.specs.declared.reader.Entry.{Entry}
use Rattle.sms_text.specs.declared.reader.Head.{Head}
use Rattle.sms_text.specs.declared.reader.plain.DigitRun.{DigitRun}
use Rattle.sms_text.specs.declared.reader.plain.IndexAt.{IndexAt}
use Rattle.sms_text.specs.declared.reader.plain.PlainLine.{PlainLine}
use Rattle.sms_text.specs.declared.reader.plain.ValueAt.{ValueAt}
use Rattle.sms_text.specs.Lines.{lines, content, words, is_gap, is_void}
use Rattle.sms_text.specs.Numbers.{are_digits, is_number, residue, unsigned, value}
use Rattle.sms_text.specs.Reading.{IsInside, ReaderState, read_on, with_items}
use Rattle.sms_text.specs.Text.{Due, Body, Item, Value, judge, read}

-- what an entry's line says, and what is pushed of it
abbrev pub entry_item : Entry → Item
entry_item e = Value e.i e.j e.v

abbrev pub entry_triple : Entry → Triple
entry_triple e = record { i = e.i; j = e.j; v = e.v }

abbrev pub with_entries_pushed : Building → List Entry → Building
with_entries_pushed b es = record b { pushed = b.pushed ++ map entry_triple es }

-- the bytes from one place up to another are digits, and spell this number
pub record AreDigitsAt (bytes : List ℕ) (at end number : ℕ) : Type 0 where
  pub word : List ℕ
  pub split : drop at bytes ≡ word ++ drop end bytes
  pub ends : end ≡ at + length word
  pub within : end ≤ length bytes
  pub digits : are_digits word ≡ true
  pub spells : number ≡ value word

-- at this place stands a number
abbrev pub IsDigitRun : List ℕ → ℕ → DigitRun → Type 0
IsDigitRun bytes at run = AreDigitsAt bytes at run.end run.number × (at < run.end)

-- at this place stands the number of a row or a column, which is below this size, with a gap behind it
pub record IsIndexAt (size : ℕ) (bytes : List ℕ) (at : ℕ) (r : IndexAt) : Type 0 where
  pub word : List ℕ
  pub gap : ℕ
  pub split : drop at bytes ≡ word ++ gap ∷ drop r.next bytes
  pub next : r.next ≡ at + length word + 1
  pub within : r.next ≤ length bytes
  pub number : is_number word ≡ true
  pub parts : is_gap gap ≡ true
  pub spells : value word ≡ r.index + 1
  pub below : r.index < size

-- at this place stands a byte 10
pub record IsBehindFeed (bytes : List ℕ) (at next : ℕ) : Type 0 where
  pub split : drop at bytes ≡ 10 ∷ drop next bytes
  pub next_is : next ≡ at + 1
  pub within : next ≤ length bytes

-- at this place a line ends: a byte 10 stands there, or a byte 13 and then a byte 10
pub record IsBehindEnd (bytes : List ℕ) (at next : ℕ) : Type 0 where
  pub mark : List ℕ
  pub kind : (mark ≡ []) ⊎ (mark ≡ 13 ∷ [])
  pub split : drop at bytes ≡ mark ++ 10 ∷ drop next bytes
  pub next_is : next ≡ at + length mark + 1
  pub within : next ≤ length bytes

-- at this place stands a value, and behind it the line ends
pub record IsValueAt (p : ℕ) (bytes : List ℕ) (at : ℕ) (r : ValueAt) : Type 0 where
  pub word : List ℕ
  pub mark : List ℕ
  pub kind : (mark ≡ []) ⊎ (mark ≡ 13 ∷ [])
  pub split : drop at bytes ≡ (word ++ mark) ++ 10 ∷ drop r.next bytes
  pub next : r.next ≡ at + length (word ++ mark) + 1
  pub within : r.next ≤ length bytes
  pub number : is_number (unsigned word) ≡ true
  pub spells : r.residue ≡ residue p word
  pub less : r.residue < p

-- at this place stands a line, closed by a byte 10, that says this entry of a text with this head
pub record IsPlainLine (p : ℕ) (h : Head) (bytes : List ℕ) (at : ℕ) (l : PlainLine) : Type 0 where
  pub line : List ℕ
  pub split : drop at bytes ≡ line ++ 10 ∷ drop l.next bytes
  pub next : l.next ≡ at + length line + 1
  pub within : l.next ≤ length bytes
  pub whole : (more : List ℕ) →
      lines (line ++ 10 ∷ more) ≡ record { bytes = line; closed = true } ∷ lines more
  pub filled : is_void (words (content line)) ≡ false
  pub says : judge p (Body h.m h.n) (words (content line))
      ≡ Ok (record { item = entry_item l.entry; due = Body h.m h.n ∷ [] })
  pub inside : IsInside h p l.entry

-- The first bytes, so many, are lines that say these entries of a text with this head: read with room for them, whatever comes behind the
-- bytes, these say the entries, and then what the others say.
pub record AreEntryLines (p : ℕ) (h : Head) (bytes : List ℕ) (size : ℕ) (es : List Entry) : Type 0 where
  pub within : size ≤ length bytes
  pub many : length es ≤ size
  pub inside : All (IsInside h p) es
  pub reads : (ended : Bool) (room number : ℕ) (dues : List Due) (more : List ℕ) → size ≤ room →
      read p ended room number (Body h.m h.n ∷ dues) (lines (bytes ++ more))
      ≡ with_items (map entry_item es) (read p ended (room - size) (number + length es)
      (Body h.m h.n ∷ dues) (lines (drop size bytes ++ more)))

-- Of a reader of a text with this head: these entries stood in the bytes that it kept and were taken. Whatever comes behind the bytes, and
-- whichever lines are due behind the text's, they say the entries, and then what the reader says.
pub record TookEntries (p : ℕ) (h : Head) (old new : ReaderState) (es : List Entry) : Type 0 where
  pub error : new.error ≡ None
  pub open_text : new.open_text ≡ old.open_text
  pub ended : new.ended ≡ old.ended
  pub last : new.last ≡ None
  pub room : new.room ≤ old.room
  pub inside : All (IsInside h p) es
  pub reads : (ended : Bool) (more : List ℕ) (dues : List Due) →
      read_on p ended (Body h.m h.n ∷ dues) old more
      ≡ with_items (map entry_item es) (read_on p ended (Body h.m h.n ∷ dues) new more)
