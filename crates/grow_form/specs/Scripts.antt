-- What a whole script is answered: each query for the rows of the matrix and all rows appended before it, from scratch (this project's
-- format).
use Rattle.std.specs.Prelude.{◌≡◌, ◌≤◌, ◌⊎◌, if◌then◌else◌, ℕ, List, [], ◌∷◌, ◌++◌, Option, None, Some, codes, map}
use Rattle.std.specs.Fmt.{decimal}
use Rattle.std.specs.List.{flat_map}
use Rattle.residue_words.specs.Matrix.{Matrix, IsCombination, row}
use Rattle.residue_words.specs.Residues.{IsPrime}
use Rattle.row_space.specs.Echelon.{HasRank, IsRref}
use Rattle.sparse_rows.specs.Rows.{ResidueMatrix}
use Rattle.sparse_rows.specs.Stored.{with_row}
use Rattle.sms_text.specs.OuterLines as form
use Rattle.sms_text.specs.Text.{Due, Item, Words, due_behind}
use Rattle.sms_text.specs.Written.{text_of}
use Rattle.sms_text.specs.declared.reader.TheConstants.{LARGEST_TEXT_SIZE}
use Rattle.grow_form.specs.declared.answering.Answer.{Answer}
use Rattle.grow_form.specs.declared.answering.Answer.TheVariants as answer
use Rattle.grow_form.specs.declared.script.ScriptLine.{ScriptLine}
use Rattle.grow_form.specs.declared.script.ScriptLine.TheVariants.{Append, Rank, Form, Contains, End}
use Rattle.grow_form.specs.Answers.{AnswersOfScript}
use Rattle.grow_form.specs.Script.{IsScriptLine, script_line_of}

-- `rank R`
abbrev pub rank_line : ℕ → List ℕ
rank_line r = codes "rank " ++ decimal r ++ 10 ∷ []

-- whether v is a combination of the rows of A
abbrev pub TellsWhether : ℕ → Matrix → List ℕ → List ℕ → Type 0
TellsWhether p A v text =
    (IsCombination p A v × (text ≡ codes "yes\n")) ⊎ (¬ IsCombination p A v × (text ≡ codes "no\n"))

-- the text is the answer to a query for the rows of A modulo p
abbrev pub AnswersQuery : ℕ → Matrix → ScriptLine → List ℕ → Type 0
AnswersQuery p A Rank text = (r : ℕ) × HasRank p A r × (text ≡ rank_line r)
AnswersQuery p A Form text = (E : Matrix) × IsRref p A E × (text ≡ text_of E)
AnswersQuery p A (Contains r) text = TellsWhether p A (row r.matrix 0) text
AnswersQuery p A line text = ⊥

-- the text is an answer to a query, and then the others
abbrev pub AnswersFirst : (List ℕ → Type 0) → (List ℕ → Type 0) → List ℕ → Type 0
AnswersFirst First Others text =
    (first : List ℕ) × (others : List ℕ) × First first × Others others × (text ≡ first ++ others)

-- The text has the answers to what is asked for, in order: those behind an appended row are for the rows of A with that row more.
abbrev pub AnswersSteps : ℕ → Matrix → List ScriptLine → List ℕ → Type 0
AnswersSteps p A [] text = text ≡ []
AnswersSteps p A (End ∷ steps) text = text ≡ []
AnswersSteps p A (Append r ∷ steps) text = AnswersSteps p (with_row A (row r.matrix 0)) steps text
AnswersSteps p A (Rank ∷ steps) text = AnswersFirst (AnswersQuery p A Rank) (AnswersSteps p A steps) text
AnswersSteps p A (Form ∷ steps) text = AnswersFirst (AnswersQuery p A Form) (AnswersSteps p A steps) text
AnswersSteps p A (Contains r ∷ steps) text =
    AnswersFirst (AnswersQuery p A (Contains r)) (AnswersSteps p A steps) text

-- the text has the answers to the lines of a script, given as their words, behind the matrix A modulo p
abbrev pub AnswersLines : ℕ → Matrix → List (List (List ℕ)) → List ℕ → Type 0
AnswersLines p A lines text = AnswersSteps p A (map (script_line_of p A.width) lines) text

-- the text of an answer, and of answers one after another
abbrev pub script_answer_text : Answer → List ℕ
script_answer_text (answer.Rank r) = rank_line r
script_answer_text (answer.Form E) = text_of E.matrix
script_answer_text (answer.Contains found) = if found then codes "yes\n" else codes "no\n"

abbrev pub answers_text : List Answer → List ℕ
answers_text answers = flat_map script_answer_text answers

-- a form has sizes that a text can give
abbrev pub AnswerFitsText : Answer → Type 0
AnswerFitsText (answer.Form E) = (E.matrix.height ≤ LARGEST_TEXT_SIZE) × (E.matrix.width ≤ LARGEST_TEXT_SIZE)
AnswerFitsText a = Unit {0}

-- a line of a script was read, and this is what it asks for
pub record SaysStep (p n : ℕ) (step : ScriptLine) (items : List Item) (due : List Due) : Type 0 where
  pub words : List (List ℕ)
  pub items_are : items ≡ Words words ∷ []
  pub due_are : due ≡ due_behind (form.Script n) words
  pub line : IsScriptLine p n words step

-- the answer to a line, if it has one, was put behind others
pub record AddsAnswer (old new : ResidueMatrix) (line : ScriptLine)
    (before after : List Answer) : Type 0 where
  pub said : Option Answer
  pub answers : AnswersOfScript old new line said
  pub behind : after ≡ before ++ elim said [ Some a ↦ a ∷ [] | None ↦ [] ]

-- a whole script was read, and these are its answers behind the matrix A
pub record SaysScript (A : ResidueMatrix) (answers : List Answer) (items : List Item)
    (due : List Due) : Type 0 where
  pub whole : due ≡ []
  pub lines : List (List (List ℕ))
  pub items_are : items ≡ map Words lines
  pub answered : IsPrime A.modulus → AnswersLines A.modulus A.matrix lines (answers_text answers)
