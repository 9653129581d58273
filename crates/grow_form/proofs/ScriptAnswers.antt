-- A script answered line by line.
use Rattle.std.proofs.Common.{ℕ, ◌≡◌, ◌≢◌, ◌+◌, ◌%◌, ◌<◌, ◌≤◌, ◌↔◌, Bool, true, false, cond, List, [], ◌∷◌, ◌++◌, length, map, Option, None, Some, Result, Ok, Err, inl, inr, refl, sym, ap, ◌∙◌, subst, append_assoc, append-nil, arith}
use Rattle.std.proofs.Math.Nat.{mod-lt}
use Rattle.std.proofs.lemmas.List.{drop_all, drop_more, map_push}
use Rattle.std.proofs.lemmas.List.Elements.{All-nil, All-push}
use Rattle.std.proofs.lemmas.Slice.Eq.{bytes_eq-Decides}
use Rattle.std.specs.Prelude.{◌||◌, ◌&&◌, All, codes, slice_index_or}
use Rattle.std.proofs.Math.ListN.{drop}
use Rattle.std.specs.Str.{bytes_eq}
use Rattle.residue_words.specs.Matrix.{Matrix, IsMatrix, IsVector, IsCombination, row}
use Rattle.residue_words.specs.Residues.{IsPrime}
use Rattle.residue_words.proofs.Vectors.{vector_of}
use Rattle.row_space.specs.Echelon.{HasRank, IsRref}
use Rattle.sparse_rows.specs.Rows.{ResidueMatrix}
use Rattle.sparse_rows.specs.Stored.{with_row}
use Rattle.sparse_rows.proofs.Loops.{matrix_more}
use Rattle.byte_streams.specs.declared.write.WriteFault.{WriteFault}
use Rattle.byte_streams.proofs.Added.{IsAdded, added_all, added_fault, added_more}
use Rattle.sms_text.specs.declared.kind.TextError.{TextError}
use Rattle.sms_text.specs.declared.kind.TextError.TheVariants as error
use Rattle.sms_text.specs.declared.reader.TheConstants.{LARGEST_TEXT_SIZE}
use Rattle.sms_text.specs.OuterLines as form
use Rattle.sms_text.specs.OuterLines.{is_script, is_script_end, are_terms, takes_terms}
use Rattle.sms_text.specs.Parts.{PartDid, Wanted, wants}
use Rattle.sms_text.specs.Reading.{InputState}
use Rattle.sms_text.specs.Writing.{Adds, OutputState}
use Rattle.sms_text.specs.ReadingRows.{RowsDid, SaysRows}
use Rattle.sms_text.specs.Text.{Due, Header, Item, Outer, Words, due_behind}
use Rattle.sms_text.proofs.Parts.{ReadSoFar, so_far_begins, so_far_pauses, so_far_ends, part_missed, part_reads, part_sound, part_taken}
use Rattle.grow_form.specs.declared.answering.Answer.{Answer}
use Rattle.grow_form.specs.declared.answering.Answer.TheVariants as answer
use Rattle.grow_form.specs.declared.script.ScriptLine.{ScriptLine}
use Rattle.grow_form.specs.declared.script.ScriptLine.TheVariants.{Append, Rank, Form, Contains, End}
use Rattle.grow_form.specs.Answers.{AnswersOfScript, FitsRows}
use Rattle.grow_form.specs.Growing.{AppendsRow, AreRowsOfForm, SpansRowsOf}
use Rattle.grow_form.specs.Script.{IsScriptLine, row_of_terms, script_line_of, term_sum}
use Rattle.grow_form.specs.Scripts.{AddsAnswer, AnswersSteps, AnswerFitsText, SaysScript, SaysStep, TellsWhether, script_answer_text, answers_text, rank_line}
use Rattle.grow_form.proofs.Growing.{same_form}
use Rattle.grow_form.proofs.ScriptTerms.{fits_read}
use Rattle.grow_form.proofs.Spanning.{spans_more, with_rows}

-- The rows that are kept span those of A modulo a prime: what is asked of them is told of A.
module _ (A grow : ResidueMatrix) (s : SpansRowsOf A grow) (prime : IsPrime A.modulus) where
  told_form : (E : Matrix) → IsRref grow.modulus grow.matrix E → IsRref A.modulus A.matrix E
  told_form E h = same_form A.modulus grow.matrix A.matrix E s.width (s.span prime) (subst (λ q. IsRref q grow.matrix E) s.modulus h)

  told_rank : (r : ℕ) → (IsPrime grow.modulus → HasRank grow.modulus grow.matrix r) → HasRank A.modulus A.matrix r
  told_rank r h = let (E, is, height) = h (subst IsPrime (sym s.modulus) prime) in (E, told_form E is, height)

  told_whether : (v : List ℕ) (found : Bool) → (found ≡ true) ↔ IsCombination grow.modulus grow.matrix v → TellsWhether A.modulus A.matrix v (cond found (codes "yes\n") (codes "no\n"))
  told_whether v found h = by_found found (subst (λ q. (found ≡ true) ↔ IsCombination q grow.matrix v) s.modulus h)
    where
      by_found : (b : Bool) → (b ≡ true) ↔ IsCombination A.modulus grow.matrix v → TellsWhether A.modulus A.matrix v (cond b (codes "yes\n") (codes "no\n"))
      by_found true h = inl ((s.span prime v).0 (h.0 refl), refl)
      by_found false h = inr (λ c. absurd (let t = h.1 ((s.span prime v).1 c) in cc), refl)

-- the first and last words of a line
word_is : (w : List ℕ) (name : List ℕ) → bytes_eq w name ≡ true → w ≡ name
word_is w name h = (bytes_eq-Decides w name).0 h

-- a line that asks for more than the end isn't the last
pub goes_on : (p n : ℕ) (ws : List (List ℕ)) → script_line_of p n ws ≢ End → is_script_end ws ≡ false
goes_on p n [] other = refl
goes_on p n (w ∷ []) other = by_word (bytes_eq w (codes "end")) refl
  where
    by_word : (b : Bool) → bytes_eq w (codes "end") ≡ b → b ≡ false
    by_word false e = refl
    by_word true e = absurd (other (ap (λ u. script_line_of p n (u ∷ [])) (word_is w (codes "end") e)))
goes_on p n (w ∷ c ∷ ws) other = refl

no_terms : (a b : Bool) (x y rest : ScriptLine) → x ≢ End → y ≢ End → (a || b) ≡ true → cond a x (cond b y rest) ≢ End
no_terms true b x y rest hx hy t e = hx e
no_terms false true x y rest hx hy t e = hy e
no_terms false false x y rest hx hy t e = absurd cc

last_word : (a b c d e : Bool) (x y : ScriptLine) → x ≢ End → y ≢ End → ((a || b) || ((c || d) || e)) ≡ true → cond a x (cond b y (cond c Rank (cond d Form End))) ≡ End → e ≡ true
last_word true b c d e x y hx hy t h = absurd (hx h)
last_word false true c d e x y hx hy t h = absurd (hy h)
last_word false false true d e x y hx hy t h = absurd cc
last_word false false false true e x y hx hy t h = absurd cc
last_word false false false false e x y hx hy t h = t

is_no_end : ScriptLine → Bool
is_no_end End = false
is_no_end (Append r) = true
is_no_end (Contains r) = true
is_no_end Rank = true
is_no_end Form = true

append_no_end : (r : ResidueMatrix) → Append r ≢ End
append_no_end r e = absurd (let t = ap is_no_end e in cc)

contains_no_end : (r : ResidueMatrix) → Contains r ≢ End
contains_no_end r e = absurd (let t = ap is_no_end e in cc)

both_true : (a b : Bool) → (a && b) ≡ true → a ≡ true
both_true true b h = refl
both_true false b h = h

-- one that asks for the end is the last
pub ends_there : (p n : ℕ) (ws : List (List ℕ)) → is_script p n ws ≡ true → script_line_of p n ws ≡ End → is_script_end ws ≡ true
ends_there p n [] test e = absurd cc
ends_there p n (w ∷ []) test e =
    last_word (bytes_eq w (codes "row")) (bytes_eq w (codes "in")) (bytes_eq w (codes "rank")) (bytes_eq w (codes "rref")) (bytes_eq w (codes "end"))
    (Append (row_of_terms p n [])) (Contains (row_of_terms p n [])) (append_no_end _) (contains_no_end _) test e
ends_there p n (w ∷ c ∷ ws) test e =
    absurd (no_terms (bytes_eq w (codes "row")) (bytes_eq w (codes "in")) (Append (row_of_terms p n (c ∷ ws))) (Contains (row_of_terms p n (c ∷ ws))) _
    (append_no_end _) (contains_no_end _) (both_true (takes_terms w) (are_terms p n (c ∷ ws)) test) e)

-- the texts of answers with one more, and a text behind them
texts_more : (answers : List Answer) (a : Answer) (text : List ℕ) → answers_text (answers ++ a ∷ []) ++ text ≡ answers_text answers ++ (script_answer_text a ++ text)
texts_more [] a text = ap (λ t. t ++ text) (append-nil (script_answer_text a))
texts_more (b ∷ answers) a text =
    append_assoc (script_answer_text b) (answers_text (answers ++ a ∷ [])) text ∙ ap (λ t. script_answer_text b ++ t) (texts_more answers a text)
    ∙ sym (append_assoc (script_answer_text b) (answers_text answers) (script_answer_text a ++ text))

lines_more : (f : List (List ℕ) → ScriptLine) (lines : List (List (List ℕ))) (ws : List (List ℕ)) (steps : List ScriptLine) →
    map f (lines ++ ws ∷ []) ++ steps ≡ map f lines ++ (f ws ∷ steps)
lines_more f lines ws steps = ap (λ l. l ++ steps) (map_push f lines ws) ∙ append_assoc (map f lines) (f ws ∷ []) steps

-- the texts of the answers from k on
pub texts_from : (answers : List Answer) (k : ℕ) (a : Answer) → k < length answers → a ≡ slice_index_or answers k a → answers_text (drop k answers) ≡ script_answer_text a ++ answers_text (drop (k + 1) answers)
texts_from answers k a l is = ap answers_text (drop_more answers k a l) ∙ ap (λ b. script_answer_text b ++ answers_text (drop (k + 1) answers)) (sym is)

pub texts_end : (answers : List Answer) (k : ℕ) → length answers ≤ k → answers_text (drop k answers) ≡ []
texts_end answers k done = ap answers_text (drop_all k answers done)

-- the last byte of the line of a rank
pub rank_ends : (r : ℕ) (result : Result (Unit {0}) WriteFault) (old now new : OutputState) → IsAdded (rank_line r) (10 ∷ []) old now → Adds result (10 ∷ []) now new → Adds result (rank_line r) old new
rank_ends r (Ok done) old now new so_far h = added_all (rank_line r) [] old new refl (added_more (rank_line r) (10 ∷ []) (10 ∷ []) [] old now new refl so_far h)
rank_ends r (Err fault) old now new so_far h = added_fault (rank_line r) (10 ∷ []) (10 ∷ []) [] fault old now new.sink refl so_far h

-- behind a text that was read the reader is sound
pub sound_behind : (p : ℕ) (old new : InputState) (A : ResidueMatrix) → RowsDid p old new (Ok A) → new.reader.error ≡ None
sound_behind p old new A did = (part_reads (wants p (Header ∷ [])) (SaysRows p) old new (Ok A) (part_sound (wants p (Header ∷ [])) (SaysRows p) old new A did) did).reads.stands.sound

-- what is wanted is a script for rows as wide as A
abbrev pub a_script : ResidueMatrix → Wanted
a_script A = wants A.modulus (Outer (form.Script A.matrix.width) ∷ [])

-- a line that was read for rows of this modulus and width
pub step_for : (A : ResidueMatrix) (p n : ℕ) (mid new : InputState) (result : Result ScriptLine TextError) → p ≡ A.modulus → n ≡ A.matrix.width →
    PartDid (wants p (Outer (form.Script n) ∷ [])) (SaysStep p n) mid new result → PartDid (a_script A) (SaysStep A.modulus A.matrix.width) mid new result
step_for A p n mid new result modulus width h =
    let P : ℕ → ℕ → Type 0 = λ q w. PartDid (wants q (Outer (form.Script w) ∷ [])) (SaysStep q w) mid new result in
    subst (λ q. P q A.matrix.width) modulus (subst (P p) width h)

-- memory was wanted before a line was read
pub script_pauses : {T : Type 0} (A : ResidueMatrix) (Means : T → List Item → List Due → Type 0) (s : InputState) → s.reader.error ≡ None → s.reader.open_text ≡ None → PartDid (a_script A) Means s s (Err error.Memory)
script_pauses A Means s sound closed =
    so_far_pauses (a_script A) Means s s [] (Outer (form.Script A.matrix.width) ∷ []) (so_far_begins (a_script A) s sound closed)

-- Lines of a script were read and answered: whatever lines follow, what answers them behind the rows so far answers the whole script.
pub record IsAnswering (A : ResidueMatrix) (old now : InputState) (grow : ResidueMatrix) (answers : List Answer) : Type 0 where
  pub lines : List (List (List ℕ))
  pub so_far : ReadSoFar (a_script A) old now (map Words lines) (Outer (form.Script A.matrix.width) ∷ [])
  pub two_or_more : 2 ≤ A.modulus
  pub rows : Matrix
  pub width : rows.width ≡ A.matrix.width
  pub residues : IsMatrix A.modulus rows
  pub spans : SpansRowsOf (record { modulus = A.modulus; matrix = rows }) grow
  pub answered : IsPrime A.modulus → (steps : List ScriptLine) (text : List ℕ) → AnswersSteps A.modulus rows steps text →
      AnswersSteps A.modulus A.matrix (map (script_line_of A.modulus A.matrix.width) lines ++ steps) (answers_text answers ++ text)
  pub fits : All AnswerFitsText answers

-- none was read yet
pub answering_begins : (A : ResidueMatrix) (s : InputState) (grow : ResidueMatrix) (answers : List Answer) → s.reader.error ≡ None → s.reader.open_text ≡ None →
    2 ≤ A.modulus → IsMatrix A.modulus A.matrix → SpansRowsOf A grow → answers ≡ [] → IsAnswering A s s grow answers
answering_begins A s grow answers sound closed two m spans none = subst (IsAnswering A s s grow) (sym none) (record {
  lines = [];
  so_far = so_far_begins (a_script A) s sound closed;
  two_or_more = two;
  rows = A.matrix;
  width = refl;
  residues = m;
  spans = spans;
  answered = λ prime steps text h. h;
  fits = All-nil AnswerFitsText;
})

-- the row of a line is one of residues as wide as A
abbrev HasVector : ℕ → ℕ → ScriptLine → Type 0
HasVector p n (Append r) = IsVector p n (row r.matrix 0)
HasVector p n (Contains r) = Unit {0}
HasVector p n Rank = Unit {0}
HasVector p n Form = Unit {0}
HasVector p n End = Unit {0}

terms_vector : (p n : ℕ) (ws : List (List ℕ)) → 0 < p → IsVector p n (row (row_of_terms p n ws).matrix 0)
terms_vector p n ws some = vector_of p n (λ j. term_sum p j ws % p) (λ j l. mod-lt (term_sum p j ws) some)

vector_either : (p n : ℕ) (b : Bool) (x y : ScriptLine) → HasVector p n x → HasVector p n y → HasVector p n (cond b x y)
vector_either p n true x y hx hy = hx
vector_either p n false x y hx hy = hy

line_vector : (p n : ℕ) (ws : List (List ℕ)) → 0 < p → HasVector p n (script_line_of p n ws)
line_vector p n [] some = tt
line_vector p n (w ∷ ws) some =
    vector_either p n (bytes_eq w (codes "row")) (Append (row_of_terms p n ws)) _ (terms_vector p n ws some)
    (vector_either p n (bytes_eq w (codes "in")) (Contains (row_of_terms p n ws)) _ tt
    (vector_either p n (bytes_eq w (codes "rank")) Rank _ tt (vector_either p n (bytes_eq w (codes "rref")) Form End tt tt)))

-- a form fits a text where its rows do
form_fits : (n : ℕ) (A E : ResidueMatrix) → A.matrix.width ≡ n → n ≤ LARGEST_TEXT_SIZE → AreRowsOfForm A E → (E.matrix.height ≤ LARGEST_TEXT_SIZE) × (E.matrix.width ≤ LARGEST_TEXT_SIZE)
form_fits n A E width small (leads, h) = (omega (arith, h.short, width, small), omega (arith, h.width, width, small))

-- the answer of a line, if there is one
abbrev those_of : Option Answer → List Answer
those_of said = elim said [ Some a ↦ a ∷ [] | None ↦ [] ]

-- Behind the lines so far another was read, and these rows and answers are what it left.
module _ (A grow grow' : ResidueMatrix) (answers answers' : List Answer) (old mid new : InputState) (is : IsAnswering A old mid grow answers) (ws : List (List ℕ))
    (so_far : ReadSoFar (a_script A) old new (map Words (is.lines ++ ws ∷ [])) (Outer (form.Script A.matrix.width) ∷ [])) (small : A.matrix.width ≤ LARGEST_TEXT_SIZE) where
  abbrev line_of : List (List ℕ) → ScriptLine
  line_of = script_line_of A.modulus A.matrix.width

  -- what answers the lines behind it, with the line and its answer before
  answered_on : (step : ScriptLine) (steps : List ScriptLine) (text text' : List ℕ) → step ≡ line_of ws → answers_text answers' ++ text ≡ answers_text answers ++ text' →
      AnswersSteps A.modulus A.matrix (map line_of is.lines ++ (step ∷ steps)) (answers_text answers ++ text') →
      AnswersSteps A.modulus A.matrix (map line_of (is.lines ++ ws ∷ []) ++ steps) (answers_text answers' ++ text)
  answered_on step steps text text' meant texts h =
      subst (λ l. AnswersSteps A.modulus A.matrix l (answers_text answers' ++ text)) (ap (λ s. map line_of is.lines ++ (s ∷ steps)) meant ∙ sym (lines_more line_of is.lines ws steps))
      (subst (AnswersSteps A.modulus A.matrix (map line_of is.lines ++ (step ∷ steps))) (sym texts) h)

  -- a row was appended
  row_read : (r : ResidueMatrix) (rose : Bool) → Append r ≡ line_of ws → IsVector A.modulus A.matrix.width (row r.matrix 0) → AppendsRow grow grow' (row r.matrix 0) rose → answers' ≡ answers →
      IsAnswering A old new grow' answers'
  row_read r rose meant vector appends same =
      let v : List ℕ = row r.matrix 0 in
      let here : IsVector A.modulus is.rows.width v = subst (λ n. IsVector A.modulus n v) (sym is.width) vector in
      record {
        lines = is.lines ++ ws ∷ [];
        so_far = so_far;
        two_or_more = is.two_or_more;
        rows = with_row is.rows v;
        width = is.width;
        residues = matrix_more is.residues here;
        spans = spans_more (with_rows A is.rows) grow grow' v rose is.residues here is.spans appends;
        answered = λ prime steps text h. answered_on (Append r) steps text text meant (ap (λ listed. answers_text listed ++ text) same) (is.answered prime (Append r ∷ steps) text h);
        fits = subst (All AnswerFitsText) (sym same) is.fits;
      }

  -- a query was answered
  query_read : (step : ScriptLine) (a : Answer) → step ≡ line_of ws → grow' ≡ grow → answers' ≡ answers ++ a ∷ [] → AnswerFitsText a →
      (IsPrime A.modulus → (steps : List ScriptLine) (text : List ℕ) → AnswersSteps A.modulus is.rows steps text → AnswersSteps A.modulus is.rows (step ∷ steps) (script_answer_text a ++ text)) →
      IsAnswering A old new grow' answers'
  query_read step a meant kept grown fits told = record {
    lines = is.lines ++ ws ∷ [];
    so_far = so_far;
    two_or_more = is.two_or_more;
    rows = is.rows;
    width = is.width;
    residues = is.residues;
    spans = subst (SpansRowsOf (with_rows A is.rows)) (sym kept) is.spans;
    answered = λ prime steps text h.
        answered_on step steps text (script_answer_text a ++ text) meant (ap (λ listed. answers_text listed ++ text) grown ∙ texts_more answers a text) (is.answered prime (step ∷ steps) (script_answer_text a ++ text) (told prime steps text h));
    fits = subst (All AnswerFitsText) (sym grown) (All-push AnswerFitsText answers a is.fits fits);
  }

  -- by what was asked for
  line_read : (step : ScriptLine) (said : Option Answer) → step ≡ line_of ws → HasVector A.modulus A.matrix.width step → step ≢ End → AnswersOfScript grow grow' step said →
      answers' ≡ answers ++ those_of said → IsAnswering A old new grow' answers'
  line_read (Append r) None meant vector other (rose, h) grown = row_read r rose meant vector h (grown ∙ append-nil answers)
  line_read Rank (Some (answer.Rank r)) meant vector other (kept, h) grown =
      query_read Rank (answer.Rank r) meant kept grown tt (λ prime steps text t. (script_answer_text (answer.Rank r), text, (r, told_rank (with_rows A is.rows) grow is.spans prime r h, refl), t, refl))
  line_read Form (Some (answer.Form E)) meant vector other (kept, h) grown =
      query_read Form (answer.Form E) meant kept grown (form_fits A.matrix.width grow E (is.spans.width ∙ is.width) small h)
      (λ prime steps text t. (script_answer_text (answer.Form E), text, (E.matrix, told_form (with_rows A is.rows) grow is.spans prime E.matrix (h.1.rref (subst IsPrime (sym is.spans.modulus) prime)), refl), t, refl))
  line_read (Contains r) (Some (answer.Contains found)) meant vector other (kept, h) grown =
      query_read (Contains r) (answer.Contains found) meant kept grown tt
      (λ prime steps text t. (script_answer_text (answer.Contains found), text, told_whether (with_rows A is.rows) grow is.spans prime (row r.matrix 0) found h, t, refl))
  line_read End said meant vector other h grown = absurd (other refl)
  line_read (Append r) (Some a) meant vector other h grown = absurd h
  line_read Rank None meant vector other h grown = absurd h
  line_read Rank (Some (answer.Form E)) meant vector other h grown = absurd h
  line_read Rank (Some (answer.Contains found)) meant vector other h grown = absurd h
  line_read Form None meant vector other h grown = absurd h
  line_read Form (Some (answer.Rank r)) meant vector other h grown = absurd h
  line_read Form (Some (answer.Contains found)) meant vector other h grown = absurd h
  line_read (Contains r) None meant vector other h grown = absurd h
  line_read (Contains r) (Some (answer.Rank k)) meant vector other h grown = absurd h
  line_read (Contains r) (Some (answer.Form E)) meant vector other h grown = absurd h

-- A line of the script was to be read behind those so far.
module _ (A grow : ResidueMatrix) (answers : List Answer) (old mid new : InputState) (is : IsAnswering A old mid grow answers) where
  abbrev line_says : ScriptLine → List Item → List Due → Type 0
  line_says = SaysStep A.modulus A.matrix.width

  -- it was
  step_taken : (step : ScriptLine) → PartDid (a_script A) line_says mid new (Ok step) →
      (ws : List (List ℕ)) × IsScriptLine A.modulus A.matrix.width ws step × ReadSoFar (a_script A) old new (map Words (is.lines ++ ws ∷ [])) (due_behind (form.Script A.matrix.width) ws)
  step_taken step did =
      let r = part_reads (a_script A) line_says mid new (Ok step) is.so_far.stands.sound did in
      let s = part_taken (a_script A) (Outer (form.Script A.matrix.width) ∷ []) [] line_says old mid new (map Words is.lines) is.so_far refl step r in
      let says = r.reads.means in (
        says.words,
        says.line,
        subst (λ items. ReadSoFar (a_script A) old new items (due_behind (form.Script A.matrix.width) says.words))
            (ap (λ l. map Words is.lines ++ l) says.items_are ∙ sym (map_push Words is.lines says.words))
            (subst (ReadSoFar (a_script A) old new (map Words is.lines ++ r.reads.items)) (append-nil r.reads.due ∙ says.due_are) s),
      )

  -- what it asks for fits the rows
  pub answering_fits : (step : ScriptLine) → PartDid (a_script A) line_says mid new (Ok step) → FitsRows grow step
  answering_fits step did =
      let (ws, line, so_far) = step_taken step did in
      subst (FitsRows grow) (sym line.meaning) (fits_read grow A.modulus A.matrix.width ws is.spans.modulus (is.spans.width ∙ is.width))

  -- and answered
  pub answering_goes : (step : ScriptLine) (grow' : ResidueMatrix) (answers' : List Answer) → A.matrix.width ≤ LARGEST_TEXT_SIZE → PartDid (a_script A) line_says mid new (Ok step) → step ≢ End →
      AddsAnswer grow grow' step answers answers' → IsAnswering A old new grow' answers'
  answering_goes step grow' answers' small did other adds =
      let (ws, line, so_far) = step_taken step did in
      let further : is_script_end ws ≡ false = goes_on A.modulus A.matrix.width ws (λ e. other (line.meaning ∙ e)) in
      let due : due_behind (form.Script A.matrix.width) ws ≡ Outer (form.Script A.matrix.width) ∷ [] = rw further refl in
      line_read A grow grow' answers answers' old mid new is ws (subst (ReadSoFar (a_script A) old new (map Words (is.lines ++ ws ∷ []))) due so_far) small step adds.said line.meaning
      (subst (HasVector A.modulus A.matrix.width) (sym line.meaning) (line_vector A.modulus A.matrix.width ws (omega (arith, is.two_or_more)))) other adds.answers adds.behind

  -- it was the last one
  pub answering_ends : {T : Type 0} (listed : T → List Answer) (x : T) → PartDid (a_script A) line_says mid new (Ok End) → listed x ≡ answers →
      PartDid (a_script A) (λ (t : T). SaysScript A (listed t)) old new (Ok x)
  answering_ends listed x did all =
      let (ws, line, so_far) = step_taken End did in
      let last : is_script_end ws ≡ true = ends_there A.modulus A.matrix.width ws line.test (sym line.meaning) in
      let due : due_behind (form.Script A.matrix.width) ws ≡ [] = rw last refl in
      so_far_ends (a_script A) (λ t. SaysScript A (listed t)) old new (map Words (is.lines ++ ws ∷ [])) [] x
      (subst (ReadSoFar (a_script A) old new (map Words (is.lines ++ ws ∷ []))) due so_far)
      (record {
        whole = refl;
        lines = is.lines ++ ws ∷ [];
        items_are = refl;
        answered = λ prime.
            let f = script_line_of A.modulus A.matrix.width in
            let all_lines : map f is.lines ++ (End ∷ []) ≡ map f (is.lines ++ ws ∷ []) = ap (λ s. map f is.lines ++ (s ∷ [])) line.meaning ∙ sym (map_push f is.lines ws) in
            subst (AnswersSteps A.modulus A.matrix (map f (is.lines ++ ws ∷ []))) (append-nil (answers_text answers) ∙ ap answers_text (sym all))
            (subst (λ l. AnswersSteps A.modulus A.matrix l (answers_text answers ++ [])) all_lines (is.answered prime (End ∷ []) [] refl));
      })

  -- and memory was wanted for its answer
  pub answering_pauses : {T : Type 0} (Means : T → List Item → List Due → Type 0) (step : ScriptLine) → PartDid (a_script A) line_says mid new (Ok step) → PartDid (a_script A) Means old new (Err error.Memory)
  answering_pauses Means step did =
      let (ws, line, so_far) = step_taken step did in
      so_far_pauses (a_script A) Means old new (map Words (is.lines ++ ws ∷ [])) (due_behind (form.Script A.matrix.width) ws) so_far

  -- it wasn't
  pub answering_stops : {T : Type 0} (Means : T → List Item → List Due → Type 0) (e : TextError) → PartDid (a_script A) line_says mid new (Err e) → PartDid (a_script A) Means old new (Err e)
  answering_stops Means e did = part_missed (a_script A) (Outer (form.Script A.matrix.width) ∷ []) [] line_says old mid new (map Words is.lines) is.so_far refl Means e did
