-- A script has one text of answers: each query has one answer.
use Rattle.std.proofs.Common.{ℕ, ◌≡◌, ◌≤◌, List, [], ◌∷◌, ◌++◌, map, inl, inr, sym, ap, ap₂, ◌∙◌}
use Rattle.residue_words.specs.Matrix.{Matrix, row}
use Rattle.row_space.proofs.Unique.{rank_unique, rref_unique}
use Rattle.sms_text.specs.Written.{text_of}
use Rattle.sparse_rows.specs.Stored.{with_row}
use Rattle.grow_form.specs.declared.script.ScriptLine.{ScriptLine}
use Rattle.grow_form.specs.declared.script.ScriptLine.TheVariants.{Append, Rank, Form, Contains, End}
use Rattle.grow_form.specs.Script.{script_line_of}
use Rattle.grow_form.specs.Scripts.{AnswersFirst, AnswersLines, AnswersQuery, AnswersSteps, TellsWhether, rank_line}

told_once : (p : ℕ) (A : Matrix) (v x y : List ℕ) → TellsWhether p A v x → TellsWhether p A v y → x ≡ y
told_once p A v x y (inl s) (inl t) = s.1 ∙ sym t.1
told_once p A v x y (inl s) (inr t) = absurd (t.0 s.0)
told_once p A v x y (inr s) (inl t) = absurd (s.0 t.0)
told_once p A v x y (inr s) (inr t) = s.1 ∙ sym t.1

one_query : (p : ℕ) (A : Matrix) (step : ScriptLine) (x y : List ℕ) → 2 ≤ p → AnswersQuery p A step x → AnswersQuery p A step y → x ≡ y
one_query p A Rank x y two (r, s, a) (q, t, b) = a ∙ ap rank_line (rank_unique p A r q two s t) ∙ sym b
one_query p A Form x y two (E, s, a) (F, t, b) = a ∙ ap text_of (rref_unique p A E F two s t) ∙ sym b
one_query p A (Contains r) x y two s t = told_once p A (row r.matrix 0) x y s t
one_query p A (Append r) x y two s t = absurd s
one_query p A End x y two s t = absurd s

-- an answer and those behind it
one_first : (First Others : List ℕ → Type 0) (x y : List ℕ) → ((a b : List ℕ) → First a → First b → a ≡ b) → ((a b : List ℕ) → Others a → Others b → a ≡ b) →
    AnswersFirst First Others x → AnswersFirst First Others y → x ≡ y
one_first First Others x y first others (a, more, s, ss, e) (b, further, t, ts, f) = e ∙ ap₂ (λ u v. u ++ v) (first a b s t) (others more further ss ts) ∙ sym f

one_steps : (p : ℕ) (A : Matrix) (steps : List ScriptLine) (x y : List ℕ) → 2 ≤ p → AnswersSteps p A steps x → AnswersSteps p A steps y → x ≡ y
one_steps p A [] x y two s t = s ∙ sym t
one_steps p A (End ∷ steps) x y two s t = s ∙ sym t
one_steps p A (Append r ∷ steps) x y two s t = one_steps p (with_row A (row r.matrix 0)) steps x y two s t
one_steps p A (Rank ∷ steps) x y two s t =
    one_first (AnswersQuery p A Rank) (AnswersSteps p A steps) x y (λ a b. one_query p A Rank a b two) (λ a b. one_steps p A steps a b two) s t
one_steps p A (Form ∷ steps) x y two s t =
    one_first (AnswersQuery p A Form) (AnswersSteps p A steps) x y (λ a b. one_query p A Form a b two) (λ a b. one_steps p A steps a b two) s t
one_steps p A (Contains r ∷ steps) x y two s t =
    one_first (AnswersQuery p A (Contains r)) (AnswersSteps p A steps) x y (λ a b. one_query p A (Contains r) a b two) (λ a b. one_steps p A steps a b two) s t

-- what answers the lines of a script behind a matrix is one text
pub one_script : (p : ℕ) (A : Matrix) (lines : List (List (List ℕ))) (x y : List ℕ) → 2 ≤ p → AnswersLines p A lines x → AnswersLines p A lines y → x ≡ y
one_script p A lines x y two s t = one_steps p A (map (script_line_of p A.width) lines) x y two s t
