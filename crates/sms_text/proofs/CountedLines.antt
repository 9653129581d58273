-- So many lines of words of one form, read one after another, as those of pivots and of publications are.
use Rattle.std.proofs.Common.{ℕ, suc, ◌≡◌, ◌+◌, ◌-◌, ◌<◌, ◌≤◌, Bool, true, false, cond, List, [], ◌∷◌, ◌++◌, length, map, None, Some, Ok, Err, refl, sym, ap, ◌∙◌, subst, arith, append-nil, length-append}
use Rattle.std.proofs.lemmas.List.{map-append}
use Rattle.std.proofs.lemmas.List.Elements.{All-head, All-tail}
use Rattle.std.specs.Prelude.{◌==◌, All}
use Rattle.std.specs.List.{flat_map}
use Rattle.sms_text.specs.declared.kind.TextError.{TextError}
use Rattle.sms_text.specs.declared.kind.TextError.TheVariants as error
use Rattle.sms_text.specs.OuterLines.{LineForm, fault_of, has_form}
use Rattle.sms_text.specs.Parts.{PartDid, SaysLines, Wanted, open_at, wants}
use Rattle.sms_text.specs.Reading.{InputState, ReaderState, WordLine, WordsDid, input}
use Rattle.sms_text.specs.Text.{Due, Outer, Item, Words, due_behind, outer_lines}
use Rattle.sms_text.proofs.Parts.{ReadSoFar, so_far_begins, so_far_pauses, so_far_ends, outer_taken, outer_unfit, outer_missing}
use Rattle.sms_text.proofs.WrittenLines.{Carries, carries_append, carries_nothing}
use Rattle.sms_text.proofs.WrittenNumbers.{above_zero}

-- so many lines are due, whose form tells how many stand behind
abbrev pub counted_lines : (ℕ → LineForm) → ℕ → List Due
counted_lines form n = cond (n == 0) [] (Outer (form (n - 1)) ∷ [])

-- no text is open where they are due
pub counted_closed : (form : ℕ → LineForm) (n : ℕ) (rest : List Due) → open_at rest ≡ None → open_at (counted_lines form n ++ rest) ≡ None
counted_closed form n rest closed = one_line (n == 0)
  where
    one_line : (b : Bool) → open_at (cond b [] (Outer (form (n - 1)) ∷ []) ++ rest) ≡ None
    one_line true = closed
    one_line false = refl

closed_alone : (form : ℕ → LineForm) (n : ℕ) → open_at (counted_lines form n) ≡ None
closed_alone form n = ap open_at (sym (append-nil (counted_lines form n))) ∙ counted_closed form n [] refl

-- the first of them
pub counted_one : (form : ℕ → LineForm) (n : ℕ) → counted_lines form (suc n) ≡ Outer (form n) ∷ []
counted_one form n = let less : suc n - 1 ≡ n = omega arith in rw (above_zero n) (ap (λ k. Outer (form k) ∷ []) less)

-- k of so many were read, and what their words give
pub record LinesRead {T : Type 0} (form : ℕ → LineForm) (of : List (List ℕ) → T) (p count k : ℕ) (list : List T) (old new : InputState) : Type 0 where
  pub lines : List (List (List ℕ))
  pub so_far : ReadSoFar (wants p (counted_lines form count)) old new (map Words lines) (counted_lines form (count - k))
  pub are : list ≡ map of lines
  pub long : length list ≡ k

pub lines_begin : {T : Type 0} (form : ℕ → LineForm) (of : List (List ℕ) → T) (p count : ℕ) (s : InputState) (list : List T) → s.reader.error ≡ None → s.reader.open_text ≡ None → list ≡ [] → LinesRead form of p count 0 list s s
lines_begin form of p count s list sound closed empty =
    let all : count ≡ count - 0 = omega arith in
    let w = wants p (counted_lines form count) in
    let P : ℕ → Type 0 = λ n. ReadSoFar w s s [] (counted_lines form n) in
    record { lines = []; so_far = subst P all (so_far_begins w s sound (closed ∙ sym (closed_alone form count))); are = empty; long = ap length empty }

-- Behind k of so many a further one is due.
module _ {T : Type 0} (form : ℕ → LineForm) (of : List (List ℕ) → T) (p count k : ℕ) (list : List T) (old mid new : InputState) (is : LinesRead form of p count k list old mid) (more : k < count) where
  abbrev all_lines : Wanted
  all_lines = wants p (counted_lines form count)

  abbrev left : ℕ
  left = count - (k + 1)

  due_next : ReadSoFar all_lines old mid (map Words is.lines) (Outer (form left) ∷ [])
  due_next =
      let one : count - k ≡ suc left = omega arith in
      subst (λ d. ReadSoFar all_lines old mid (map Words is.lines) d) (ap (counted_lines form) one ∙ counted_one form left) is.so_far

  -- it was read
  pub lines_go : (list' : List T) (x : T) (line : WordLine) → ((n : ℕ) (ws : List (List ℕ)) → due_behind (form n) ws ≡ counted_lines form n) →
      WordsDid mid new (Ok line) → has_form p (form left) line.words ≡ true → x ≡ of line.words → new.reader.open_text ≡ None → list' ≡ list ++ x ∷ [] → LinesRead form of p count (k + 1) list' old new
  lines_go list' x line behind did fits same shut grown =
      let due : due_behind (form left) line.words ++ [] ≡ counted_lines form left = append-nil (due_behind (form left) line.words) ∙ behind left line.words in
      let opened = shut ∙ sym (ap open_at due ∙ closed_alone form left) in
      let next = outer_taken all_lines (form left) [] old mid new (map Words is.lines) due_next line did fits opened in
      let P : List Due → Type 0 = λ d. ReadSoFar all_lines old new (map Words is.lines ++ Words line.words ∷ []) d in
      let Q : List Item → Type 0 = λ i. ReadSoFar all_lines old new i (counted_lines form left) in
      record {
        lines = is.lines ++ line.words ∷ [];
        so_far = subst Q (sym (map-append Words is.lines (line.words ∷ []))) (subst P due next);
        are = grown ∙ ap (λ xs. xs ++ x ∷ []) is.are ∙ ap (λ y. map of is.lines ++ y ∷ []) same ∙ sym (map-append of is.lines (line.words ∷ []));
        long = ap length grown ∙ length-append list (x ∷ []) ∙ ap (λ n. n + 1) is.long;
      }

  -- memory was wanted for it
  pub lines_pause : (x : T) (line : WordLine) → ((n : ℕ) (ws : List (List ℕ)) → due_behind (form n) ws ≡ counted_lines form n) →
      WordsDid mid new (Ok line) → has_form p (form left) line.words ≡ true → x ≡ of line.words → new.reader.open_text ≡ None → PartDid all_lines (SaysLines of) old new (Err error.Memory)
  lines_pause x line behind did fits same shut =
      let s = lines_go (list ++ x ∷ []) x line behind did fits same shut refl in
      so_far_pauses all_lines (SaysLines of) old new (map Words s.lines) (counted_lines form (count - (k + 1))) s.so_far

  -- no line came
  pub lines_stop : (e : TextError) → WordsDid mid new (Err e) → PartDid all_lines (SaysLines of) old new (Err e)
  lines_stop e did = outer_missing all_lines (form left) [] old mid new (map Words is.lines) due_next (SaysLines of) e did

  -- a line of another form came, and was refused
  pub lines_refuse : (line : WordLine) (e : TextError) (after : ReaderState) → WordsDid mid new (Ok line) → has_form p (form left) line.words ≡ false →
      e ≡ error.Bad line.number (fault_of (form left)) → after ≡ record new.reader { error = Some e; last = None } → PartDid all_lines (SaysLines of) old (input after new.source) (Err e)
  lines_refuse line e after did fails same told = outer_unfit all_lines (form left) [] old mid new (map Words is.lines) due_next (SaysLines of) line e after did fails same told

-- all of them were read
pub lines_end : {T : Type 0} (form : ℕ → LineForm) (of : List (List ℕ) → T) (p count k : ℕ) (list : List T) (old new : InputState) → LinesRead form of p count k list old new → count ≤ k
    → PartDid (wants p (counted_lines form count)) (SaysLines of) old new (Ok list)
lines_end form of p count k list old new is all =
    let none : count - k ≡ 0 = omega arith in
    so_far_ends (wants p (counted_lines form count)) (SaysLines of) old new (map Words is.lines) (counted_lines form (count - k)) list is.so_far
    (record { whole = ap (counted_lines form) none; lines = is.lines; items_are = refl; list_is = is.are })

-- no text is open between two of them
pub lines_shut : {T : Type 0} (form : ℕ → LineForm) (of : List (List ℕ) → T) (p count k : ℕ) (list : List T) (old new : InputState) → LinesRead form of p count k list old new → new.reader.open_text ≡ None
lines_shut form of p count k list old new is = is.so_far.stands.opened ∙ closed_alone form (count - k)

-- their texts, one after another, say their words
pub counted_carry : {T : Type 0} (form : ℕ → LineForm) (text : T → List ℕ) (words : T → List (List ℕ)) (Fits : T → Type 0) (p : ℕ) (ended : Bool) (dues : List Due) →
    ((x : T) (n : ℕ) → Fits x → Carries p ended (Outer (form n) ∷ dues) (counted_lines form n ++ dues) (text x) (Words (words x) ∷ [])) → (list : List T) → All Fits list →
    Carries p ended (counted_lines form (length list) ++ dues) dues (flat_map text list) (map (λ x. Words (words x)) list)
counted_carry form text words Fits p ended dues one [] small = carries_nothing p ended dues
counted_carry form text words Fits p ended dues one (x ∷ list) small =
    let P : List Due → Type 0 = λ d. Carries p ended (d ++ dues) dues (flat_map text (x ∷ list)) (map (λ y. Words (words y)) (x ∷ list)) in
    let line = one x (length list) (All-head Fits x list small) in
    subst P (sym (counted_one form (length list))) (carries_append p ended _ _ _ _ _ _ _ line (counted_carry form text words Fits p ended dues one list (All-tail Fits x list small)))

-- what their items are, and that the words give each item again
pub items_of_words : {T : Type 0} (words : T → List (List ℕ)) (list : List T) → map (λ x. Words (words x)) list ≡ map Words (map words list)
items_of_words words [] = refl
items_of_words words (x ∷ list) = ap (λ l. Words (words x) ∷ l) (items_of_words words list)

pub words_again : (lines : List (List (List ℕ))) → outer_lines (map Words lines) ≡ lines
words_again [] = refl
words_again (ws ∷ lines) = ap (λ l. ws ∷ l) (words_again lines)

pub given_again : {T : Type 0} (of : List (List ℕ) → T) (words : T → List (List ℕ)) (Fits : T → Type 0) → ((x : T) → Fits x → of (words x) ≡ x) → (list : List T) → All Fits list →
    map of (map words list) ≡ list
given_again of words Fits one [] small = refl
given_again of words Fits one (x ∷ list) small =
    ap (λ y. y ∷ map of (map words list)) (one x (All-head Fits x list small)) ∙ ap (λ l. x ∷ l) (given_again of words Fits one list (All-tail Fits x list small))
