-- Entry lines that are plain: how their words stand in the bytes, and what they say.
use Rattle.std.proofs.Common.{ℕ, ◌||◌, ◌+◌, ◌-◌, ◌*◌, ◌%◌, ◌<◌, ◌≤◌, ◌≡◌, ◌≢◌, ◌⊎◌, Bool, true, false, cond, eqb, ltb, List, [], ◌∷◌, ◌++◌, length, length-append, length-take, take, drop, map, get_or, Option, None, Some, Ok, refl, sym, ap, subst, ◌∙◌, inl, inr, arith, append_assoc}
use Rattle.std.proofs.lemmas.Bool.{cases_Bool}
use Rattle.std.proofs.lemmas.Bool.Decides.{nat_tests}
use Rattle.std.proofs.lemmas.List.{drop_more, drop-append-le, take-append-drop, map-append}
use Rattle.std.proofs.lemmas.List.Elements.{All-nil, All-push}
use Rattle.std.specs.Option.{MatchOption}
use Rattle.std.specs.Prelude.{IfSome}
use Rattle.sms_text.specs.declared.kind.TextError.{TextError}
use Rattle.sms_text.specs.declared.reader.Entry.{Entry}
use Rattle.sms_text.specs.declared.reader.Head.{Head}
use Rattle.sms_text.specs.declared.reader.feed.Feed.{Feed}
use Rattle.sms_text.specs.declared.reader.plain.DigitRun.{DigitRun}
use Rattle.sms_text.specs.declared.reader.plain.IndexAt.{IndexAt}
use Rattle.sms_text.specs.declared.reader.plain.PlainLine.{PlainLine}
use Rattle.sms_text.specs.declared.reader.plain.ValueAt.{ValueAt}
use Rattle.sms_text.specs.Feeding.{TookPlain, state}
use Rattle.sms_text.specs.Lines.{lines, content, words, is_gap, is_void, begins_with_mark, with_first}
use Rattle.sms_text.specs.Numbers.{are_digits, divides_by_zero, is_digit, is_minus, is_number, is_value, residue, unsigned, value, value_modulo}
use Rattle.sms_text.specs.PlainLines.{AreDigitsAt, AreEntryLines, IsBehindEnd, IsDigitRun, IsIndexAt, IsPlainLine, IsValueAt, TookEntries, entry_item}
use Rattle.sms_text.specs.Reading.{IsInside, ReaderState, with_items}
use Rattle.sms_text.specs.Text.{Due, Body, Value, Judged, body_of, judge, read, with_item}
use Rattle.sms_text.proofs.LeadingWords.{digits_push, digits_split, number_digits_all, number_words, signed_alone, some_number, value_push}
use Rattle.sms_text.proofs.Runs.{with_items_push}

-- digits from a place on: none yet, and one more
pub digits_begin : (bytes : List ℕ) (at : ℕ) → at ≤ length bytes → AreDigitsAt bytes at at 0
digits_begin bytes at inside = record { word = []; split = refl; ends = omega arith; within = inside; digits = refl; spells = refl }

pub digits_on : (bytes : List ℕ) (at end number next : ℕ) → AreDigitsAt bytes at end number → end < length bytes → is_digit (get_or bytes end 0) ≡ true →
    next ≡ 10 * number + (get_or bytes end 0 - 48) → AreDigitsAt bytes at (end + 1) next
digits_on bytes at end number next h inside digit is =
    let d = get_or bytes end 0 in
    record {
      word = h.word ++ d ∷ [];
      split = h.split ∙ ap (λ t. h.word ++ t) (drop_more bytes end 0 inside) ∙ sym (append_assoc h.word (d ∷ []) (drop (end + 1) bytes));
      ends = omega (arith, h.ends, length-append h.word (d ∷ []));
      within = omega arith;
      digits = digits_push h.word d h.digits digit;
      spells = is ∙ ap (λ n. 10 * n + (d - 48)) h.spells ∙ sym (value_push 0 d h.word);
    }

-- where some stand, they are a number
pub run_number : (bytes : List ℕ) (at end number : ℕ) (h : AreDigitsAt bytes at end number) → at < end → is_number h.word ≡ true
run_number bytes at end number h some = some_number h.word (λ none. absurd (omega (arith, h.ends))) h.digits

-- the run that ended there
pub run_ended : (bytes : List ℕ) (at end number : ℕ) (result : Option DigitRun) → AreDigitsAt bytes at end number → MatchOption result (end ≡ at) (λ run. (at ≢ end) × (run ≡ record { number = number; end = end })) →
    IfSome result (IsDigitRun bytes at)
run_ended bytes at end number None h is = tt
run_ended bytes at end number (Some run) h is = rw is.1 (h, omega (arith, h.ends, is.0))

-- what stands behind them
run_split : (bytes : List ℕ) (at end number : ℕ) (h : AreDigitsAt bytes at end number) → end < length bytes →
    drop at bytes ≡ h.word ++ get_or bytes end 0 ∷ drop (end + 1) bytes
run_split bytes at end number h inside = h.split ∙ ap (λ t. h.word ++ t) (drop_more bytes end 0 inside)

-- a number begins with no sign and no mark
plain_number : (w : List ℕ) → is_number w ≡ true → (unsigned w ≡ w) × (is_minus w ≡ false) × (begins_with_mark w ≡ false)
plain_number [] h = absurd cc
plain_number (b ∷ w) h =
    let d = digits_split b w h in
    let minus : eqb b 45 ≡ false = grind (arith, nat_tests, d.0) in
    let plus : eqb b 43 ≡ false = grind (arith, nat_tests, d.0) in
    let percent : eqb b 37 ≡ false = grind (arith, nat_tests, d.0) in
    let hash : eqb b 35 ≡ false = grind (arith, nat_tests, d.0) in
    (rw (minus, plus) refl, minus, rw (percent, hash) refl)

-- the digits of a value, behind which the line ends
value_end : (bytes : List ℕ) (at end number next : ℕ) (h : AreDigitsAt bytes at end number) (e : IsBehindEnd bytes end next) →
    drop at bytes ≡ (h.word ++ e.mark) ++ 10 ∷ drop next bytes
value_end bytes at end number next h e = h.split ∙ ap (λ t. h.word ++ t) e.split ∙ sym (append_assoc h.word e.mark (10 ∷ drop next bytes))

-- a value with a minus or without
pub value_found : (p : ℕ) (bytes : List ℕ) (at sign : ℕ) (run : DigitRun) (rest : ℕ) (r : ValueAt) → at < length bytes → (eqb (get_or bytes at 0) 45 ≡ true → sign ≡ 1) → (eqb (get_or bytes at 0) 45 ≡ false → sign ≡ 0) →
    IsDigitRun bytes (at + sign) run → IsBehindEnd bytes run.end r.next → rest ≡ run.number % p →
    r.residue ≡ cond (eqb (get_or bytes at 0) 45) ((p - rest) % p) rest → r.residue < p → IsValueAt p bytes at r
value_found p bytes at sign run rest r inside one_if none_if h e rests result less = elim (cases_Bool (eqb (get_or bytes at 0) 45)) [
  | inl minus ↦
      let b = get_or bytes at 0 in
      let one : sign ≡ 1 = one_if minus in
      let number = run_number bytes (at + sign) run.end run.number h.0 h.1 in
      let rest_is : rest ≡ value h.0.word % p = rests ∙ ap (λ n. n % p) h.0.spells in
      let unsigned_is : unsigned (b ∷ h.0.word) ≡ h.0.word = rw minus refl in
      let mine : cond (eqb b 45) ((p - rest) % p) rest ≡ (p - value h.0.word % p) % p = rw minus (ap (λ n. (p - n) % p) rest_is) in
      let its : residue p (b ∷ h.0.word) ≡ (p - value h.0.word % p) % p = rw minus refl in
      record {
        word = b ∷ h.0.word;
        mark = e.mark;
        kind = e.kind;
        split = drop_more bytes at 0 inside ∙ ap (λ t. b ∷ t) (ap (λ n. drop (at + n) bytes) (sym one) ∙ value_end bytes (at + sign) run.end run.number r.next h.0 e);
        next = omega (arith, h.0.ends, e.next_is, length-append h.0.word e.mark);
        within = e.within;
        number = ap is_number unsigned_is ∙ number;
        spells = result ∙ mine ∙ sym its;
        less = less;
      }
  | inr plain ↦
      let none : sign ≡ 0 = none_if plain in
      let number = run_number bytes (at + sign) run.end run.number h.0 h.1 in
      let rest_is : rest ≡ value h.0.word % p = rests ∙ ap (λ n. n % p) h.0.spells in
      let alike = plain_number h.0.word number in
      let mine : cond (eqb (get_or bytes at 0) 45) ((p - rest) % p) rest ≡ value h.0.word % p = rw plain rest_is in
      let its : residue p h.0.word ≡ value h.0.word % p = rw (alike.1, alike.0) refl in
      record {
        word = h.0.word;
        mark = e.mark;
        kind = e.kind;
        split = ap (λ n. drop n bytes) (let same : at ≡ at + sign = omega arith in same) ∙ value_end bytes (at + sign) run.end run.number r.next h.0 e;
        next = omega (arith, h.0.ends, e.next_is, length-append h.0.word e.mark);
        within = e.within;
        number = ap is_number alike.0 ∙ number;
        spells = result ∙ mine ∙ sym its;
        less = less;
      }
]

-- bytes without a byte 10 which are the content of a line, with this mark at its end
record IsBare (mark line : List ℕ) : Type 0 where
  pub some : length line ≢ 0
  pub whole : (more : List ℕ) → lines ((line ++ mark) ++ 10 ∷ more) ≡ record { bytes = line ++ mark; closed = true } ∷ lines more
  pub kept : content (line ++ mark) ≡ line

bare_push : (mark : List ℕ) (b : ℕ) (line : List ℕ) → eqb b 10 ≡ false → IsBare mark line → IsBare mark (b ∷ line)
bare_push mark b [] other h = absurd (h.some refl)
bare_push mark b (c ∷ line) other h = record {
  some = λ e. absurd (omega arith);
  whole = λ more. rw other (ap (with_first b) (h.whole more));
  kept = ap (λ t. b ∷ t) h.kept;
}

bare_digits : (mark w line : List ℕ) → are_digits w ≡ true → IsBare mark line → IsBare mark (w ++ line)
bare_digits mark [] line h bare = bare
bare_digits mark (b ∷ w) line h bare =
    let d = digits_split b w h in
    let other : eqb b 10 ≡ false = grind (arith, nat_tests, d.0) in
    bare_push mark b (w ++ line) other (bare_digits mark w line d.1 bare)

bare_digit : (mark : List ℕ) (b : ℕ) → (mark ≡ []) ⊎ (mark ≡ 13 ∷ []) → eqb b 10 ≡ false → eqb b 13 ≡ false → IsBare mark (b ∷ [])
bare_digit mark b (inl none) other shown = subst (λ m. IsBare m (b ∷ [])) (sym none) (record { some = λ e. absurd (omega arith); whole = λ more. rw other refl; kept = rw shown refl })
bare_digit mark b (inr cut) other shown = subst (λ m. IsBare m (b ∷ [])) (sym cut) (record { some = λ e. absurd (omega arith); whole = λ more. rw other refl; kept = refl })

bare_number : (mark w : List ℕ) → (mark ≡ []) ⊎ (mark ≡ 13 ∷ []) → is_number w ≡ true → IsBare mark w
bare_number mark [] kind h = absurd cc
bare_number mark (b ∷ []) kind h =
    let d = digits_split b [] h in
    let other : eqb b 10 ≡ false = grind (arith, nat_tests, d.0) in
    let shown : eqb b 13 ≡ false = grind (arith, nat_tests, d.0) in
    bare_digit mark b kind other shown
bare_number mark (b ∷ c ∷ w) kind h =
    let d = digits_split b (c ∷ w) h in
    let other : eqb b 10 ≡ false = grind (arith, nat_tests, d.0) in
    bare_push mark b (c ∷ w) other (bare_number mark (c ∷ w) kind d.1)

bare_value : (mark w : List ℕ) → (mark ≡ []) ⊎ (mark ≡ 13 ∷ []) → is_number (unsigned w) ≡ true → IsBare mark w
bare_value mark [] kind h = absurd cc
bare_value mark (b ∷ w) kind h = elim (cases_Bool (eqb b 45 || eqb b 43)) [
  | inl sign ↦
      let same : unsigned (b ∷ w) ≡ w = rw sign refl in
      let other : eqb b 10 ≡ false = grind (arith, nat_tests) in
      bare_push mark b w other (bare_number mark w kind (sym (ap is_number same) ∙ h))
  | inr none ↦
      let same : unsigned (b ∷ w) ≡ b ∷ w = rw none refl in
      bare_number mark (b ∷ w) kind (sym (ap is_number same) ∙ h)
]

gap_goes : (g : ℕ) → is_gap g ≡ true → eqb g 10 ≡ false
gap_goes g h = grind (arith, nat_tests)

-- what the three words of a plain line say
body_says : (p m n : ℕ) (a b v : List ℕ) (i j x : ℕ) → is_number a ≡ true → is_number b ≡ true → is_number (unsigned v) ≡ true →
    value a ≡ i + 1 → value b ≡ j + 1 → i < m → j < n → x ≡ residue p v →
    body_of p m n (a ∷ b ∷ v ∷ []) ≡ Ok (record { item = Value i j x; due = Body m n ∷ [] })
body_says p m n a b v i j x first second third row column low narrow same =
    let alone = signed_alone v third in
    let spelled : is_value v ≡ true = rw (ap (λ f. is_number (unsigned f)) (sym alone.1.2) ∙ third, alone.1.0) refl in
    let whole : divides_by_zero p v ≡ false = rw alone.1.0 refl in
    let says : value_modulo p v ≡ x = rw alone.1.0 (ap (residue p) (sym alone.1.2) ∙ sym same) in
    let row_some : eqb (value a) 0 ≡ false = grind (arith, nat_tests) in
    let column_some : eqb (value b) 0 ≡ false = grind (arith, nat_tests) in
    let row_low : ltb m (value a) ≡ false = grind (arith, nat_tests) in
    let column_low : ltb n (value b) ≡ false = grind (arith, nat_tests) in
    let row_is : value a - 1 ≡ i = omega arith in
    let column_is : value b - 1 ≡ j = omega arith in
    rw (first, second, spelled, row_some, column_some, row_low, column_low, whole, row_is, column_is, says) refl

-- two indices and a value are a plain line
pub line_found : (p : ℕ) (h : Head) (bytes : List ℕ) (at : ℕ) (r c : IndexAt) (v : ValueAt) (l : PlainLine) → IsIndexAt h.m bytes at r → IsIndexAt h.n bytes r.next c → IsValueAt p bytes c.next v →
    l ≡ record { entry = record { i = r.index; j = c.index; v = v.residue }; next = v.next } → IsPlainLine p h bytes at l
line_found p h bytes at r c v l row column val is =
    let back = column.word ++ column.gap ∷ val.word in
    let line = row.word ++ row.gap ∷ back in
    let tail = val.word ++ val.mark in
    let rest = drop v.next bytes in
    let bare : IsBare val.mark line = bare_digits val.mark row.word (row.gap ∷ back) (number_digits_all row.word row.number) (bare_push val.mark row.gap back (gap_goes row.gap row.parts)
    (bare_digits val.mark column.word (column.gap ∷ val.word) (number_digits_all column.word column.number)
    (bare_push val.mark column.gap val.word (gap_goes column.gap column.parts) (bare_value val.mark val.word val.kind val.number)))) in
    let three : words (content (line ++ val.mark)) ≡ row.word ∷ column.word ∷ val.word ∷ [] = ap words bare.kept ∙ number_words row.word back row.gap row.number row.parts
    ∙ ap (λ ws. row.word ∷ ws) (number_words column.word val.word column.gap column.number column.parts ∙ ap (λ ws. column.word ∷ ws) (signed_alone val.word val.number).0) in
    let marked : line ++ val.mark ≡ row.word ++ row.gap ∷ (column.word ++ column.gap ∷ tail) = append_assoc row.word (row.gap ∷ back) val.mark
    ∙ ap (λ t. row.word ++ row.gap ∷ t) (append_assoc column.word (column.gap ∷ val.word) val.mark) in
    rw is (record {
      line = line ++ val.mark;
      split = row.split ∙ ap (λ t. row.word ++ row.gap ∷ t) (column.split ∙ ap (λ t. column.word ++ column.gap ∷ t) val.split
          ∙ sym (append_assoc column.word (column.gap ∷ tail) (10 ∷ rest))) ∙ sym (append_assoc row.word (row.gap ∷ (column.word ++ column.gap ∷ tail)) (10 ∷ rest))
          ∙ ap (λ t. t ++ 10 ∷ rest) (sym marked);
      next = omega (arith, row.next, column.next, val.next, ap length marked, length-append row.word (row.gap ∷ (column.word ++ column.gap ∷ tail)), length-append column.word (column.gap ∷ tail));
      within = val.within;
      whole = bare.whole;
      filled = ap is_void three ∙ (plain_number row.word row.number).2;
      says = ap (judge p (Body h.m h.n)) three
          ∙ body_says p h.m h.n row.word column.word val.word r.index c.index v.residue row.number column.number val.number row.spells column.spells row.below column.below val.spells;
      inside = record { row = row.below; column = column.below; residue = val.less };
    })

-- no line was taken
pub lines_begin : (p : ℕ) (h : Head) (bytes : List ℕ) → AreEntryLines p h bytes 0 []
lines_begin p h bytes = record {
  within = omega arith;
  many = omega arith;
  inside = All-nil (IsInside h p);
  reads = λ ended room number dues more fits.
      let same : room - 0 ≡ room = omega arith in
      let none : number + 0 ≡ number = omega arith in
      rw (same, none) refl;
}

-- a line that fits the room is read, and then what stands behind it
one_read : (p : ℕ) (line : List ℕ) (j : Judged) (ended : Bool) (room number : ℕ) (due : Due) (dues : List Due) (more : List ℕ) → length line + 1 ≤ room →
    lines (line ++ 10 ∷ more) ≡ record { bytes = line; closed = true } ∷ lines more → is_void (words (content line)) ≡ false → judge p due (words (content line)) ≡ Ok j →
    read p ended room number (due ∷ dues) (lines (line ++ 10 ∷ more)) ≡ with_item j.item (read p ended (room - (length line + 1)) (number + 1) (j.due ++ dues) (lines more))
one_read p line j ended room number due dues more fits whole filled says =
    let short : ltb room (length line + 1) ≡ false = grind (arith, nat_tests) in
    rw (whole, short, filled, says) refl

-- one line more was taken
pub lines_on : (p : ℕ) (h : Head) (bytes : List ℕ) (at : ℕ) (es : List Entry) (l : PlainLine) → AreEntryLines p h bytes at es → IsPlainLine p h bytes at l →
    AreEntryLines p h bytes l.next (es ++ l.entry ∷ [])
lines_on p h bytes at es l old new = record {
  within = new.within;
  many = omega (arith, old.many, new.next, length-append es (l.entry ∷ []));
  inside = All-push (IsInside h p) es l.entry old.inside new.inside;
  reads = λ ended room number dues more fits.
      let due = Body h.m h.n ∷ dues in
      let split : drop at bytes ++ more ≡ new.line ++ 10 ∷ (drop l.next bytes ++ more) = ap (λ t. t ++ more) new.split ∙ append_assoc new.line (10 ∷ drop l.next bytes) more in
      let left : room - at - (length new.line + 1) ≡ room - l.next = omega (arith, new.next) in
      let count : number + length es + 1 ≡ number + length (es ++ l.entry ∷ []) = omega (arith, length-append es (l.entry ∷ [])) in
      let one = one_read p new.line _ ended (room - at) (number + length es) (Body h.m h.n) dues (drop l.next bytes ++ more) (omega (arith, new.next)) (new.whole (drop l.next bytes ++ more)) new.filled new.says in
      old.reads ended room number dues more (omega (arith, new.next))
      ∙ ap (λ b. with_items (map entry_item es) (read p ended (room - at) (number + length es) due (lines b))) split
      ∙ ap (with_items (map entry_item es)) one
      ∙ sym (with_items_push (map entry_item es) (entry_item l.entry) _)
      ∙ ap (λ n. with_items (map entry_item es ++ entry_item l.entry ∷ []) (read p ended n (number + length es + 1) due (lines (drop l.next bytes ++ more)))) left
      ∙ ap (λ n. with_items (map entry_item es ++ entry_item l.entry ∷ []) (read p ended (room - l.next) n due (lines (drop l.next bytes ++ more)))) count
      ∙ ap (λ is. with_items is (read p ended (room - l.next) (number + length (es ++ l.entry ∷ [])) due (lines (drop l.next bytes ++ more)))) (sym (map-append entry_item es (l.entry ∷ [])));
}

-- what the lines leave of the room
pub plain_fits : (p : ℕ) (h : Head) (room : ℕ) (bytes : List ℕ) (size : ℕ) (es : List Entry) → AreEntryLines p h (take room bytes) size es → (size ≤ room) × (size ≤ length bytes) × (length es ≤ size)
plain_fits p h room bytes size es plain = (omega (arith, plain.within, length-take room bytes), omega (arith, plain.within, length-take room bytes), plain.many)

-- what a feed took, as a reader has it
pub took_entries : (p : ℕ) (h : Head) (old : ReaderState) (feed feed' : Feed) (e : Option TextError) (o : Option (ℕ × ℕ)) (l : Option ℕ) (es : List Entry) → state feed e o l ≡ old → old.error ≡ None → TookPlain p h feed feed' es →
    TookEntries p h old (state feed' e o None) es
took_entries p h old feed feed' e o l es is none took =
    subst (λ r. TookEntries p h r (state feed' e o None) es) is (
    let room = feed.room in
    let front = take room feed.buffer in
    let back = drop room feed.buffer in
    let fits = plain_fits p h room feed.buffer took.size es took.plain in
    record {
      error = ap (λ r. r.error) is ∙ none;
      open_text = refl;
      ended = took.ended;
      last = refl;
      room = omega (arith, took.room);
      inside = took.plain.inside;
      reads = λ ended more dues.
          let due = Body h.m h.n ∷ dues in
          let items = map entry_item es in
          let whole : feed.buffer ++ more ≡ front ++ (back ++ more) = ap (λ b. b ++ more) (sym (take-append-drop room feed.buffer)) ∙ append_assoc front back more in
          let rest : drop took.size front ++ (back ++ more) ≡ feed'.buffer ++ more = sym (append_assoc (drop took.size front) back more)
          ∙ ap (λ b. b ++ more) (sym (drop-append-le took.size front back took.plain.within) ∙ ap (drop took.size) (take-append-drop room feed.buffer) ∙ sym took.buffer) in
          ap (λ b. read p ended room feed.number due (lines b)) whole
          ∙ took.plain.reads ended room feed.number dues (back ++ more) fits.0
          ∙ ap (λ b. with_items items (read p ended (room - took.size) (feed.number + length es) due (lines b))) rest
          ∙ ap (λ n. with_items items (read p ended n (feed.number + length es) due (lines (feed'.buffer ++ more)))) (sym took.room)
          ∙ ap (λ n. with_items items (read p ended feed'.room n due (lines (feed'.buffer ++ more)))) (sym took.number);
    })
