-- Texts: which lines are due, what a line says, and which line of an input is the first with a fault (this project's profile of the SMS format).
use Rattle.std.specs.Prelude.{◌≡◌, ◌+◌, ◌-◌, ◌%◌, ◌==◌, ◌||◌, ◌&&◌, nat_lt, Bool, false, not, if◌then◌else◌, ℕ, List, [], ◌∷◌, ◌++◌, Result, Ok, Err, map, slice_index_or, codes}
use Rattle.std.specs.List.{range_with_len}
use Rattle.std.specs.Str.{bytes_eq}
use Rattle.residue_words.specs.Matrix.{Matrix, list_of}
use Rattle.sms_text.specs.declared.kind.Kind.{Kind}
use Rattle.sms_text.specs.declared.kind.Kind.TheVariants as kind
use Rattle.sms_text.specs.declared.reader.TheConstants.{LARGEST_TEXT_SIZE}
use Rattle.sms_text.specs.Lines.{Line, lines, size, content, words, is_void}
use Rattle.sms_text.specs.Numbers.{is_number, is_letter, value, is_value, is_zero, divides_by_zero, value_modulo}
use Rattle.sms_text.specs.OuterLines.{LineForm, Certificate, Pivot, Trace, Step, Script, has_form, fault_of, is_script_end}

-- which line is due: a header; an entry or the closing line of a text of this height and width; the header of a text behind which a script
-- for rows of its width is due; or, outside of texts, a line of words of this form
pub data Due : Type 0 where
  Header : Due
  Body : ℕ → ℕ → Due
  Scripted : Due
  Outer : LineForm → Due

-- what a line says: the sizes m and n; the value v at row i and column j, from 0; the end of a text; or, outside of texts, its words
pub data Item : Type 0 where
  Sizes : ℕ → ℕ → Item
  Value : ℕ → ℕ → ℕ → Item
  Closing : Item
  Words : List (List ℕ) → Item

-- what a line says, and which lines it makes due
pub record Judged : Type 0 where
  pub item : Item
  pub due : List Due

-- three words are of a header: two numbers and a letter; of an entry: two numbers and a value
abbrev pub is_one_letter : List ℕ → Bool
is_one_letter [] = false
is_one_letter (b ∷ []) = is_letter b
is_one_letter (b ∷ c ∷ bs) = false

-- the kinds of fault in their order: Words, Number, Size
abbrev pub header_of : List (List ℕ) → Result Judged Kind
header_of (m ∷ n ∷ letter ∷ []) =
    if not (is_one_letter letter) then Err kind.Words else
    if not (is_number m && is_number n) then Err kind.Number else
    if nat_lt LARGEST_TEXT_SIZE (value m) || nat_lt LARGEST_TEXT_SIZE (value n) then Err kind.Size else
    Ok (record { item = Sizes (value m) (value n); due = Body (value m) (value n) ∷ [] })
header_of _ = Err kind.Words

abbrev pub is_outside : ℕ → ℕ → Bool
is_outside size i = i == 0 || nat_lt size i

-- Words, Number, Row, Column, Divisor
abbrev pub body_of : ℕ → ℕ → ℕ → List (List ℕ) → Result Judged Kind
body_of p m n (i ∷ j ∷ v ∷ []) =
    if not (is_number i && is_number j && is_value v) then Err kind.Number else
    if value i == 0 && value j == 0 && is_zero v then Ok (record { item = Closing; due = [] }) else
    if is_outside m (value i) then Err kind.Row else
    if is_outside n (value j) then Err kind.Column else
    if divides_by_zero p v then Err kind.Divisor else
    Ok (record { item = Value (value i - 1) (value j - 1) (value_modulo p v); due = Body m n ∷ [] })
body_of p m n _ = Err kind.Words

-- behind a text of these sizes comes a script for rows of its width
abbrev pub script_behind : Item → List Due
script_behind (Sizes m n) = Outer (Script n) ∷ []
script_behind item = []

abbrev pub with_script : Result Judged Kind → Result Judged Kind
with_script (Ok j) = Ok (record j { due = j.due ++ script_behind j.item })
with_script (Err k) = Err k

-- the number that the word at k, from 0, spells
abbrev pub number_at : List (List ℕ) → ℕ → ℕ
number_at ws k = value (slice_index_or ws k [])

-- so many pivots; so many steps
abbrev pub pivot_lines : ℕ → List Due
pivot_lines n = if n == 0 then [] else Outer (Pivot (n - 1)) ∷ []

abbrev pub step_lines : ℕ → List Due
step_lines n = if n == 0 then [] else Outer (Step (n - 1)) ∷ []

-- the texts of a certificate of this kind: the factors L and U, and, where more than the rank is claimed, the matrix that is claimed
abbrev pub texts_of_kind : List ℕ → List Due
texts_of_kind k = if bytes_eq k (codes "rank") then Header ∷ Header ∷ [] else Header ∷ Header ∷ Header ∷ []

-- the lines that a line of this form makes due
abbrev pub due_behind : LineForm → List (List ℕ) → List Due
due_behind Certificate ws = pivot_lines (number_at ws 3) ++ texts_of_kind (slice_index_or ws 1 [])
due_behind (Pivot n) ws = pivot_lines n
due_behind Trace ws = step_lines (number_at ws 2)
due_behind (Step n) ws = step_lines n
due_behind (Script n) ws = if is_script_end ws then [] else Outer (Script n) ∷ []

-- Certificate, Trace or Script
abbrev pub outer_of : ℕ → LineForm → List (List ℕ) → Result Judged Kind
outer_of p form ws =
    if has_form p form ws then Ok (record { item = Words ws; due = due_behind form ws })
    else Err (fault_of form)

abbrev pub judge : ℕ → Due → List (List ℕ) → Result Judged Kind
judge p Header ws = header_of ws
judge p (Body m n) ws = body_of p m n ws
judge p Scripted ws = with_script (header_of ws)
judge p (Outer form) ws = outer_of p form ws

-- the fault of an input that ends where this line is due
abbrev pub end_kind : Due → Kind
end_kind Header = kind.NoHeader
end_kind (Body m n) = kind.NoEnd
end_kind Scripted = kind.NoHeader
end_kind (Outer form) = kind.NoEnd

-- what an input turns out to be: these items and the lines behind them; a fault of this kind at this line; or too short to tell
pub data Reading : Type 0 where
  Got : List Item → List Line → Reading
  Fault : ℕ → Kind → Reading
  Short : Reading

abbrev pub with_item : Item → Reading → Reading
with_item item (Got items rest) = Got (item ∷ items) rest
with_item item (Fault number k) = Fault number k
with_item item Short = Short

-- The lines that are due, read from these lines. `room` is how many bytes lines may still take, `number` the number of the next line,
-- and `ended` says that no more will come. A line is judged once it is complete: its byte 10 or the end has come, or one byte more than there is room for.
abbrev pub read : ℕ → Bool → ℕ → ℕ → List Due → List Line → Reading
read p ended room number [] ls = Got [] ls
read p ended room number (due ∷ dues) [] = if ended then Fault number (end_kind due) else Short
read p ended room number (due ∷ dues) (l ∷ ls) =
    if nat_lt room (size l) then Fault number kind.Long else
    if not (l.closed || ended) then Short else
    if is_void (words (content l.bytes)) then read p ended (room - size l) (number + 1) (due ∷ dues) ls else
    elim (judge p due (words (content l.bytes))) [
      | Ok j ↦ with_item j.item (read p ended (room - size l) (number + 1) (j.due ++ dues) ls)
      | Err k ↦ Fault number k
    ]

-- what is to be read: from line 1 on, these lines, with values modulo this, in lines of at most so many bytes in all
pub record Request : Type 0 where
  pub modulus : ℕ
  pub limit : ℕ
  pub due : List Due

abbrev pub reading : Request → Bool → List ℕ → Reading
reading r ended bytes = read r.modulus ended r.limit 1 r.due (lines bytes)

-- the bytes begin with the wanted parts, which say these items; the lines behind them are the rest
abbrev pub Reads : Request → List ℕ → Bool → List Item → List Line → Type 0
Reads r bytes ended items rest = reading r ended bytes ≡ Got items rest

-- the first fault of the bytes stands at this line and is of this kind
abbrev pub FirstFault : Request → List ℕ → Bool → ℕ → Kind → Type 0
FirstFault r bytes ended line k = reading r ended bytes ≡ Fault line k

-- the sum of the values given for row i and column j, up to the end of the text
abbrev pub value_at : ℕ → ℕ → List Item → ℕ
value_at i j [] = 0
value_at i j (Sizes m n ∷ items) = value_at i j items
value_at i j (Value a b v ∷ items) = (if a == i && b == j then v else 0) + value_at i j items
value_at i j (Closing ∷ items) = 0
value_at i j (Words ws ∷ items) = value_at i j items

abbrev pub matrix_of : ℕ → ℕ → ℕ → List Item → Matrix
matrix_of p m n items = record {
  height = m;
  width = n;
  rows = map (λ i. list_of n (λ j. value_at i j items % p)) (range_with_len 0 m);
}

-- the matrices of the texts that these items are
abbrev pub matrices : ℕ → List Item → List Matrix
matrices p [] = []
matrices p (Sizes m n ∷ items) = matrix_of p m n items ∷ matrices p items
matrices p (Value i j v ∷ items) = matrices p items
matrices p (Closing ∷ items) = matrices p items
matrices p (Words ws ∷ items) = matrices p items

-- the words of the lines outside of texts
abbrev pub outer_lines : List Item → List (List (List ℕ))
outer_lines [] = []
outer_lines (Sizes m n ∷ items) = outer_lines items
outer_lines (Value i j v ∷ items) = outer_lines items
outer_lines (Closing ∷ items) = outer_lines items
outer_lines (Words ws ∷ items) = ws ∷ outer_lines items
