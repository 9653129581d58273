-- Bytes that end with the last line that is due, its byte 10 included: what comes behind them is read next, and what their items are.
use Rattle.std.proofs.Common.{ℕ, ◌≡◌, ◌+◌, ◌-◌, ◌%◌, ◌<◌, ◌≤◌, ◌⊎◌, Bool, true, false, cond, ltb, eqb, List, [], ◌∷◌, ◌++◌, Result, Ok, Err, length, map, refl, sym, ap, subst, ◌∙◌, inl, inr, append_assoc, arith}
use Rattle.std.specs.Prelude.{if◌then◌else◌, ◌||◌, ◌&&◌, ◌==◌, not}
use Rattle.std.specs.List.{range_with_len}
use Rattle.std.proofs.lemmas.Bool.{cases_Bool}
use Rattle.std.proofs.lemmas.Bool.Decides.{nat_tests}
use Rattle.std.proofs.lemmas.List.{ext_get_or}
use Rattle.std.proofs.lemmas.List.FromFn.{length-map-range_with_len, get_or-map-range_with_len}
use Rattle.residue_words.specs.Matrix.{Matrix, list_of}
use Rattle.residue_words.proofs.Vectors.{list_of_equal}
use Rattle.sms_text.specs.declared.kind.Kind.{Kind}
use Rattle.sms_text.specs.declared.kind.Kind.TheVariants as kind
use Rattle.sms_text.specs.declared.reader.TheConstants.{LARGEST_TEXT_SIZE}
use Rattle.sms_text.specs.Lines.{Line, lines, size, content, words, is_void, with_first, lines_then}
use Rattle.sms_text.specs.Numbers.{is_number, value, is_value, is_zero, divides_by_zero, value_modulo}
use Rattle.sms_text.specs.OuterLines.{LineForm, Script, fault_of, has_form}
use Rattle.sms_text.specs.Reading.{with_items}
use Rattle.sms_text.specs.Text.{Due, Header, Body, Scripted, Outer, Item, Sizes, Value, Closing, Words, Judged, Reading, Got, Fault, Short, body_of, due_behind, header_of, is_one_letter, is_outside, judge, matrices, matrix_of, outer_lines, read, value_at, with_item, with_script}
use Rattle.sms_text.proofs.Following.{lines_behind}

-- how many bytes lines take
abbrev total : List Line → ℕ
total [] = 0
total (l ∷ ls) = size l + total ls

total_first : (b : ℕ) (ls : List Line) → total (with_first b ls) ≡ 1 + total ls
total_first b [] = refl
total_first b (l ∷ ls) = omega arith

total_lines : (bs : List ℕ) → total (lines bs) ≡ length bs
total_lines [] = refl
total_lines (b ∷ bs) = elim (cases_Bool (eqb b 10)) [
  | inl ten ↦ rw ten (omega (arith, total_lines bs))
  | inr other ↦ rw other (omega (arith, total_first b (lines bs), total_lines bs))
]

-- ---- one line

-- what a line says is put in front of what is read behind it
abbrev Unpacked : Item → Reading → List Item → List Line → Type 0
Unpacked item behind items rest = (items' : List Item) × (items ≡ item ∷ items') × (behind ≡ Got items' rest)

unpack : (item : Item) (behind : Reading) (items : List Item) (rest : List Line) → with_item item behind ≡ Got items rest → Unpacked item behind items rest
unpack item (Got items' rest') items rest h = (items', (let e : items ≡ item ∷ items' = cc in e), (let e : rest' ≡ rest = cc in ap (Got items') e))
unpack item (Fault line k) items rest h = absurd (let none : ⊥ = cc in none)
unpack item Short items rest h = absurd (let none : ⊥ = cc in none)

-- the first line was passed over, or it said something
abbrev Goes : Bool → Reading → Result Judged Kind → (Judged → Reading) → List Item → List Line → Type 0
Goes void passed said behind items rest =
    ((void ≡ true) × (passed ≡ Got items rest))
    ⊎ ((void ≡ false) × ((j : Judged) × (said ≡ Ok j) × Unpacked j.item (behind j) items rest))

line_goes : (long closed void : Bool) (number : ℕ) (passed : Reading) (said : Result Judged Kind) (behind : Judged → Reading) (items : List Item) (rest : List Line) →
    cond long (Fault number kind.Long) (cond (not (closed || false)) Short (cond void passed (elim said [ Ok j ↦ with_item j.item (behind j) | Err k ↦ Fault number k ]))) ≡ Got items rest →
    (closed ≡ true) × Goes void passed said behind items rest
line_goes true closed void number passed said behind items rest h = absurd (let none : ⊥ = cc in none)
line_goes false false void number passed said behind items rest h = absurd (let none : ⊥ = cc in none)
line_goes false true true number passed said behind items rest h = (refl, inl (refl, h))
line_goes false true false number passed (Ok j) behind items rest h = (refl, inr (refl, (j, refl, unpack j.item (behind j) items rest h)))
line_goes false true false number passed (Err k) behind items rest h = absurd (let none : ⊥ = cc in none)

-- ---- what comes behind

-- Where these lines are the last that are due, what is due behind them is read from the bytes behind them, with the room that they leave.
abbrev GoesOn : ℕ → List Due → List Line → List Item → Type 0
GoesOn p dues ls items = (ended : Bool) (room number : ℕ) (more : List Due) (bytes : List ℕ) → total ls ≤ room →
    (n : ℕ) × (read p ended room number (dues ++ more) (lines_then ls bytes) ≡ with_items items (read p ended (room - total ls) n more (lines bytes)))

goes_line : (p room number : ℕ) (due : Due) (dues : List Due) (bytes : List ℕ) (closed : Bool) (ls : List Line) (items : List Item) →
    ((room' number' : ℕ) (dues' : List Due) (items' : List Item) → read p false room' number' dues' ls ≡ Got items' [] → GoesOn p dues' ls items') →
    read p false room number (due ∷ dues) (record { bytes = bytes; closed = closed } ∷ ls) ≡ Got items [] → GoesOn p (due ∷ dues) (record { bytes = bytes; closed = closed } ∷ ls) items
goes_line p room number due dues bytes false ls items behind h ended room' number' more next fits =
    let ws = words (content bytes) in
    let left = room - (length bytes + 0) in
    let at = line_goes (ltb room (length bytes + 0)) false (is_void ws) number (read p false left (number + 1) (due ∷ dues) ls) (judge p due ws)
    (λ j. read p false left (number + 1) (j.due ++ dues) ls) items [] h in
    absurd (let e : false ≡ true = at.0 in let none : ⊥ = cc in none)
goes_line p room number due dues bytes true ls items behind h ended room' number' more next fits =
    let s = length bytes + 1 in
    let ws = words (content bytes) in
    let at = line_goes (ltb room s) true (is_void ws) number (read p false (room - s) (number + 1) (due ∷ dues) ls) (judge p due ws)
    (λ j. read p false (room - s) (number + 1) (j.due ++ dues) ls) items [] h in
    let low : ltb room' s ≡ false = grind (arith, nat_tests, fits) in
    let less : (room' - s) - total ls ≡ room' - (s + total ls) = omega arith in
    elim at.1 [
      | inl passed ↦
          let later = behind (room - s) (number + 1) (due ∷ dues) items passed.1 ended (room' - s) (number' + 1) more next (omega (arith, fits)) in (
            later.0,
            rw (low, passed.0) (later.1 ∙ ap (λ r. with_items items (read p ended r later.0 more (lines next))) less),
          )
      | inr took ↦
          let j = took.1.0 in
          let un = took.1.2 in
          let later = behind (room - s) (number + 1) (j.due ++ dues) un.0 un.2 ended (room' - s) (number' + 1) more next (omega (arith, fits)) in (
            later.0,
            rw (low, took.0, took.1.1, un.1) (ap (λ ds. with_item j.item (read p ended (room' - s) (number' + 1) ds (lines_then ls next))) (sym (append_assoc j.due dues more))
                ∙ ap (with_item j.item) (later.1 ∙ ap (λ r. with_items un.0 (read p ended r later.0 more (lines next))) less)),
          )
    ]

goes_nowhere : (p : ℕ) (ls : List Line) (items : List Item) → Got [] ls ≡ Got items [] → GoesOn p [] ls items
goes_nowhere p ls items h ended room number more bytes fits =
    let none : [] ≡ items = cc in
    let last : ls ≡ [] = cc in
    let same : room ≡ room - 0 = omega arith in
    rw (last, ← none) (number, ap (λ r. read p ended r number more (lines bytes)) same)

goes_on : (p room number : ℕ) (dues : List Due) (ls : List Line) (items : List Item) → read p false room number dues ls ≡ Got items [] → GoesOn p dues ls items
goes_on p room number [] ls items h = goes_nowhere p ls items h
goes_on p room number (due ∷ dues) [] items h = absurd (let none : ⊥ = cc in none)
goes_on p room number (due ∷ dues) (l ∷ ls) items h =
    goes_line p room number due dues l.bytes l.closed ls items (λ r n ds is e. goes_on p r n ds ls is e) h

-- the same for bytes
pub read_behind : (p room number : ℕ) (dues : List Due) (text : List ℕ) (items : List Item) → read p false room number dues (lines text) ≡ Got items [] →
    (ended : Bool) (room' number' : ℕ) (more : List Due) (bytes : List ℕ) → length text ≤ room' →
    (n : ℕ) × (read p ended room' number' (dues ++ more) (lines (text ++ bytes)) ≡ with_items items (read p ended (room' - length text) n more (lines bytes)))
read_behind p room number dues text items h ended room' number' more bytes fits =
    let count = total_lines text in
    let later = goes_on p room number dues (lines text) items h ended room' number' more bytes (omega (arith, count, fits)) in (
      later.0,
      ap (read p ended room' number' (dues ++ more)) (lines_behind text bytes) ∙ later.1 ∙ ap (λ n. with_items items (read p ended (room' - n) later.0 more (lines bytes))) count,
    )

-- ---- what the items are

-- what a line that is due says, and which lines it makes due
abbrev SaidBy : Due → Judged → Type 0
SaidBy Header j = (m : ℕ) × (n : ℕ) × (m ≤ LARGEST_TEXT_SIZE) × (n ≤ LARGEST_TEXT_SIZE) × (j ≡ record { item = Sizes m n; due = Body m n ∷ [] })
SaidBy (Body m n) j = (j ≡ record { item = Closing; due = [] }) ⊎ ((i : ℕ) × (k : ℕ) × (v : ℕ) × (j ≡ record { item = Value i k v; due = Body m n ∷ [] }))
SaidBy Scripted j = (m : ℕ) × (n : ℕ) × (m ≤ LARGEST_TEXT_SIZE) × (n ≤ LARGEST_TEXT_SIZE) × (j ≡ record { item = Sizes m n; due = Body m n ∷ Outer (Script n) ∷ [] })
SaidBy (Outer form) j = (ws : List (List ℕ)) × (due : List Due) × (j ≡ record { item = Words ws; due = due })

header_cases : (words number large tall : Bool) (m n : ℕ) (j : Judged) → (tall ≡ ltb LARGEST_TEXT_SIZE n) → (large ≡ ltb LARGEST_TEXT_SIZE m) →
    cond (not words) (Err kind.Words) (cond (not number) (Err kind.Number) (cond (large || tall) (Err kind.Size) (Ok (record { item = Sizes m n; due = Body m n ∷ [] })))) ≡ Ok j → SaidBy Header j
header_cases false number large tall m n j a b h = absurd (let none : ⊥ = cc in none)
header_cases true false large tall m n j a b h = absurd (let none : ⊥ = cc in none)
header_cases true true true tall m n j a b h = absurd (let none : ⊥ = cc in none)
header_cases true true false true m n j a b h = absurd (let none : ⊥ = cc in none)
header_cases true true false false m n j a b h =
    let is : j ≡ record { item = Sizes m n; due = Body m n ∷ [] } = cc in (m, n, grind (arith, nat_tests), grind (arith, nat_tests), is)

header_said : (ws : List (List ℕ)) (j : Judged) → header_of ws ≡ Ok j → SaidBy Header j
header_said [] j h = absurd (let none : ⊥ = cc in none)
header_said (a ∷ []) j h = absurd (let none : ⊥ = cc in none)
header_said (a ∷ b ∷ []) j h = absurd (let none : ⊥ = cc in none)
header_said (a ∷ b ∷ c ∷ []) j h =
    header_cases (is_one_letter c) (is_number a && is_number b) (ltb LARGEST_TEXT_SIZE (value a)) (ltb LARGEST_TEXT_SIZE (value b)) (value a) (value b) j refl refl h
header_said (a ∷ b ∷ c ∷ d ∷ ws) j h = absurd (let none : ⊥ = cc in none)

body_cases : (number closes row col divides : Bool) (m n i k v : ℕ) (j : Judged) →
    cond (not number) (Err kind.Number) (cond closes (Ok (record { item = Closing; due = [] })) (cond row (Err kind.Row) (cond col (Err kind.Column) (cond divides (Err kind.Divisor)
    (Ok (record { item = Value i k v; due = Body m n ∷ [] })))))) ≡ Ok j → SaidBy (Body m n) j
body_cases false closes row col divides m n i k v j h = absurd (let none : ⊥ = cc in none)
body_cases true true row col divides m n i k v j h = inl (let is : j ≡ record { item = Closing; due = [] } = cc in is)
body_cases true false true col divides m n i k v j h = absurd (let none : ⊥ = cc in none)
body_cases true false false true divides m n i k v j h = absurd (let none : ⊥ = cc in none)
body_cases true false false false true m n i k v j h = absurd (let none : ⊥ = cc in none)
body_cases true false false false false m n i k v j h = inr (i, k, v, (let is : j ≡ record { item = Value i k v; due = Body m n ∷ [] } = cc in is))

body_said : (p m n : ℕ) (ws : List (List ℕ)) (j : Judged) → body_of p m n ws ≡ Ok j → SaidBy (Body m n) j
body_said p m n [] j h = absurd (let none : ⊥ = cc in none)
body_said p m n (a ∷ []) j h = absurd (let none : ⊥ = cc in none)
body_said p m n (a ∷ b ∷ []) j h = absurd (let none : ⊥ = cc in none)
body_said p m n (a ∷ b ∷ c ∷ []) j h =
    body_cases (is_number a && is_number b && is_value c) (value a == 0 && value b == 0 && is_zero c) (is_outside m (value a)) (is_outside n (value b)) (divides_by_zero p c)
    m n (value a - 1) (value b - 1) (value_modulo p c) j h
body_said p m n (a ∷ b ∷ c ∷ d ∷ ws) j h = absurd (let none : ⊥ = cc in none)

script_said : (said : Result Judged Kind) (j : Judged) → ((h : Judged) → said ≡ Ok h → SaidBy Header h) → with_script said ≡ Ok j → SaidBy Scripted j
script_said (Ok h) j header e =
    let at = header h refl in
    let head : with_script (Ok h) ≡ Ok (record { item = Sizes at.0 at.1; due = Body at.0 at.1 ∷ Outer (Script at.1) ∷ [] }) = ap (λ x. with_script (Ok x)) at.4 in
    let both : Ok j ≡ Ok (record { item = Sizes at.0 at.1; due = Body at.0 at.1 ∷ Outer (Script at.1) ∷ [] }) = sym e ∙ head in
    let is : j ≡ record { item = Sizes at.0 at.1; due = Body at.0 at.1 ∷ Outer (Script at.1) ∷ [] } = cc in
    (at.0, at.1, at.2, at.3, is)
script_said (Err k) j header e = absurd (let none : ⊥ = cc in none)

outer_cases : (fits : Bool) (form : LineForm) (k : Kind) (said : Judged) (j : Judged) → cond fits (Ok said) (Err k) ≡ Ok j → said ≡ j
outer_cases true form k said j h = let is : said ≡ j = cc in is
outer_cases false form k said j h = absurd (let none : ⊥ = cc in none)

said_by : (p : ℕ) (due : Due) (ws : List (List ℕ)) (j : Judged) → judge p due ws ≡ Ok j → SaidBy due j
said_by p Header ws j h = header_said ws j h
said_by p (Body m n) ws j h = body_said p m n ws j h
said_by p Scripted ws j h = script_said (header_of ws) j (header_said ws) h
said_by p (Outer form) ws j h =
    (ws, due_behind form ws, sym (outer_cases (has_form p form ws) form (fault_of form) (record { item = Words ws; due = due_behind form ws }) j h))

-- matrices of sizes that a text can give
abbrev pub AreOfTextSize : List Matrix → Type 0
AreOfTextSize [] = Unit {0}
AreOfTextSize (A ∷ values) = (A.height ≤ LARGEST_TEXT_SIZE) × (A.width ≤ LARGEST_TEXT_SIZE) × AreOfTextSize values

-- the text that is open is closed among these items, so that its sums stay whatever items follow
abbrev EndsText : List Due → List Item → Type 0
EndsText (Body m n ∷ dues) items = (i j : ℕ) (more : List Item) → value_at i j (items ++ more) ≡ value_at i j items
EndsText _ items = Unit {0}

-- matrix texts alone are due
abbrev pub AreTexts : List Due → Type 0
AreTexts [] = Unit {0}
AreTexts (Header ∷ dues) = AreTexts dues
AreTexts (Body m n ∷ dues) = AreTexts dues
AreTexts (Scripted ∷ dues) = ⊥
AreTexts (Outer form ∷ dues) = ⊥

-- Items of whole texts and of lines of words stand by themselves: they have these matrices and lines whatever items follow.
pub record StandAlone (p : ℕ) (dues : List Due) (items : List Item) : Type 0 where
  pub lines : (more : List Item) → outer_lines (items ++ more) ≡ outer_lines items ++ outer_lines more
  pub values : (more : List Item) → matrices p (items ++ more) ≡ matrices p items ++ matrices p more
  pub sizes : AreOfTextSize (matrices p items)
  pub ends : EndsText dues items
  pub wordless : AreTexts dues → outer_lines items ≡ []

same_matrix : (p m n : ℕ) (items later : List Item) → ((i j : ℕ) → value_at i j later ≡ value_at i j items) → matrix_of p m n later ≡ matrix_of p m n items
same_matrix p m n items later same =
    let F : List Item → ℕ → List ℕ = λ l i. list_of n (λ j. value_at i j l % p) in
    ap (λ rows. record { height = m; width = n; rows = rows }) (ext_get_or [] (map (F later) (range_with_len 0 m)) (map (F items) (range_with_len 0 m))
    (length-map-range_with_len (F later) 0 m ∙ sym (length-map-range_with_len (F items) 0 m)) (λ i l.
    let k : i < m = omega (arith, length-map-range_with_len (F later) 0 m) in
    get_or-map-range_with_len (F later) 0 m i i [] k (omega arith)
    ∙ list_of_equal n (λ j. value_at i j later % p) (λ j. value_at i j items % p) (λ j h. ap (λ v. v % p) (same i j))
    ∙ sym (get_or-map-range_with_len (F items) 0 m i i [] k (omega arith))))

alone_sizes : (p m n : ℕ) (more dues : List Due) (items : List Item) → m ≤ LARGEST_TEXT_SIZE → n ≤ LARGEST_TEXT_SIZE → StandAlone p (Body m n ∷ more) items →
    EndsText dues (Sizes m n ∷ items) → (AreTexts dues → AreTexts more) → StandAlone p dues (Sizes m n ∷ items)
alone_sizes p m n more dues items low narrow s ends texts = record {
  lines = s.lines;
  values = λ later. ap (λ A. A ∷ matrices p (items ++ later)) (same_matrix p m n items (items ++ later) (λ i j. s.ends i j later)) ∙ ap (λ values. matrix_of p m n items ∷ values) (s.values later);
  sizes = (low, narrow, s.sizes);
  ends = ends;
  wordless = λ are. s.wordless (texts are);
}

alone_more : (p : ℕ) (due : Due) (dues : List Due) (j : Judged) (items : List Item) → SaidBy due j → StandAlone p (j.due ++ dues) items → StandAlone p (due ∷ dues) (j.item ∷ items)
alone_more p Header dues j items said s =
    let P : Judged → Type 0 = λ (h : Judged). StandAlone p (h.due ++ dues) items → StandAlone p (Header ∷ dues) (h.item ∷ items) in
    subst P (sym said.4) (λ t. alone_sizes p said.0 said.1 dues (Header ∷ dues) items said.2 said.3 t tt (λ are. are)) s
alone_more p (Body m n) dues j items (inl closing) s =
    let P : Judged → Type 0 = λ (h : Judged). StandAlone p (h.due ++ dues) items → StandAlone p (Body m n ∷ dues) (h.item ∷ items) in
    subst P (sym closing) (λ t. record { lines = t.lines; values = t.values; sizes = t.sizes; ends = λ i j more. refl; wordless = t.wordless }) s
alone_more p (Body m n) dues j items (inr entry) s =
    let P : Judged → Type 0 = λ (h : Judged). StandAlone p (h.due ++ dues) items → StandAlone p (Body m n ∷ dues) (h.item ∷ items) in
    subst P (sym entry.3) (λ t. record {
      lines = t.lines;
      values = t.values;
      sizes = t.sizes;
      ends = λ i j more. ap (λ v. (if entry.0 == i && entry.1 == j then entry.2 else 0) + v) (t.ends i j more);
      wordless = t.wordless;
    }) s
alone_more p Scripted dues j items said s =
    let P : Judged → Type 0 = λ (h : Judged). StandAlone p (h.due ++ dues) items → StandAlone p (Scripted ∷ dues) (h.item ∷ items) in
    subst P (sym said.4) (λ t. alone_sizes p said.0 said.1 (Outer (Script said.1) ∷ dues) (Scripted ∷ dues) items said.2 said.3 t tt (λ none. none)) s
alone_more p (Outer form) dues j items said s =
    let P : Judged → Type 0 = λ (h : Judged). StandAlone p (h.due ++ dues) items → StandAlone p (Outer form ∷ dues) (h.item ∷ items) in
    subst P (sym said.2) (λ t. record { lines = λ more. ap (λ ls. said.0 ∷ ls) (t.lines more); values = t.values; sizes = t.sizes; ends = tt; wordless = λ none. absurd none }) s

alone_nothing : (p : ℕ) (items : List Item) → [] ≡ items → StandAlone p [] items
alone_nothing p items none =
    subst (StandAlone p []) none (record { lines = λ more. refl; values = λ more. refl; sizes = tt; ends = tt; wordless = λ are. refl })

-- all that is read stands alone
pub read_alone : (p room number : ℕ) (dues : List Due) (ls : List Line) (items : List Item) (rest : List Line) → read p false room number dues ls ≡ Got items rest → StandAlone p dues items
read_alone p room number [] ls items rest h = alone_nothing p items (let none : [] ≡ items = cc in none)
read_alone p room number (due ∷ dues) [] items rest h = absurd (let none : ⊥ = cc in none)
read_alone p room number (due ∷ dues) (l ∷ ls) items rest h =
    let ws = words (content l.bytes) in
    let at = line_goes (ltb room (size l)) l.closed (is_void ws) number (read p false (room - size l) (number + 1) (due ∷ dues) ls) (judge p due ws)
    (λ j. read p false (room - size l) (number + 1) (j.due ++ dues) ls) items rest h in
    elim at.1 [
      | inl passed ↦ read_alone p (room - size l) (number + 1) (due ∷ dues) ls items rest passed.1
      | inr took ↦
          let un = took.1.2 in
          subst (StandAlone p (due ∷ dues)) (sym un.1) (alone_more p due dues took.1.0 un.0 (said_by p due ws took.1.0 took.1.1)
          (read_alone p (room - size l) (number + 1) (took.1.0.due ++ dues) ls un.0 rest un.2))
    ]
