-- A command has one answer: what its text tells is unique, and just one of two things can be told.
use Rattle.std.proofs.Common.{ℕ, ◌≡◌, ◌≢◌, ◌≤◌, ◌⊎◌, ◌++◌, inl, inr, List, [], ◌∷◌, refl, sym, ap, ◌∙◌}
use Rattle.std.specs.Prelude.{codes}
use Rattle.residue_words.specs.Matrix.{Matrix, row}
use Rattle.row_space.proofs.InverseLaws.{inverse_unique}
use Rattle.row_space.proofs.Unique.{kernel_unique, rank_unique, rref_unique}
use Rattle.kernel_solve.specs.Column.{column, column_matrix}
use Rattle.grow_form.proofs.OneScript.{one_script}
use Rattle.sms_text.specs.Written.{text_of}
use Rattle.sparse_rows.specs.Rows.{transposed}
use Rattle.certificates.specs.declared.cert_kind.CertKind.{CertKind}
use Rattle.spasm_words.specs.declared.command.Task.TheVariants as task
use Rattle.spasm_words.specs.declared.command.Command.{Command}
use Rattle.spasm_words.specs.declared.command.Task.{Task}
use Rattle.spasm_run.specs.Contents.{HasLawfulTrace, IsCertified}
use Rattle.spasm_words.specs.Generator.{generated}
use Rattle.spasm_run.specs.Summary.{summary_of}
use Rattle.grow_form.specs.Scripts.{rank_line}
use Rattle.spasm_run.specs.Answers.{AnswerTo, AnswersScript, InvertsTo, IsOneAnswer, MatricesAnswer, VerdictOn, as_row, pivots_text}
use Rattle.spasm_run.proofs.OneSelection.{selection_one}
use Rattle.spasm_run.proofs.Solving.{one_solution}
use Rattle.spasm_laws.proofs.OneTrace.{trace_one}

-- the answer to an inverse
one_inverse : (p : ℕ) (A : Matrix) (x y : List ℕ) → 2 ≤ p → InvertsTo p A x → InvertsTo p A y → x ≡ y
one_inverse p A x y two (inl s) (inl t) =
    let same : s.0 ≡ t.0 = inverse_unique p A s.0 t.0 two s.1 t.1 in s.2 ∙ ap (λ B. codes "inverse\n" ++ text_of B) same ∙ sym t.2
one_inverse p A x y two (inl s) (inr t) = absurd (t.1 s.0 s.1)
one_inverse p A x y two (inr s) (inl t) = absurd (s.1 t.0 t.1)
one_inverse p A x y two (inr s) (inr t) =
    let same : s.0 ≡ t.0 = kernel_unique p A s.0 t.0 two s.2 t.2 in
    s.4 ∙ ap (λ K. codes "singular\n" ++ text_of (as_row (row K 0))) same ∙ sym t.4

one_kernel : (p : ℕ) (A K L : Matrix) (x y : List ℕ) → K ≡ L → x ≡ text_of K → y ≡ text_of L → x ≡ y
one_kernel p A K L x y same a b = a ∙ ap text_of same ∙ sym b

one_verdict : (Claim : Type 0) (x y : List ℕ) → VerdictOn Claim x → VerdictOn Claim y → x ≡ y
one_verdict Claim x y (inl s) (inl t) = s.1 ∙ sym t.1
one_verdict Claim x y (inl s) (inr t) = absurd (t.0 s.0)
one_verdict Claim x y (inr s) (inl t) = absurd (s.0 t.0)
one_verdict Claim x y (inr s) (inr t) = s.1 ∙ sym t.1

answers_one : (t : Task) (c : Command) (values : List Matrix) (x y : List ℕ) → 2 ≤ c.modulus → ((t ≡ task.Pivots) ⊎ (t ≡ task.Trace) → c.workers ≡ 1) → ((k : CertKind) → t ≢ task.Certify k) →
    MatricesAnswer t c values x → MatricesAnswer t c values y → x ≡ y
answers_one task.Rank c (A ∷ []) x y two alone other (r, s, a) (q, t, b) = a ∙ ap rank_line (rank_unique c.modulus A r q two s t) ∙ sym b
answers_one task.Rref c (A ∷ []) x y two alone other (E, s, a) (F, t, b) = one_kernel c.modulus A E F x y (rref_unique c.modulus A E F two s t) a b
answers_one task.Kernel c (A ∷ []) x y two alone other (K, s, a) (L, t, b) = one_kernel c.modulus A K L x y (kernel_unique c.modulus A K L two s t) a b
answers_one task.Solve c (A ∷ B ∷ []) x y two alone other s t = one_solution c.modulus A (column B) x y two s t
answers_one task.LeftKernel c (A ∷ []) x y two alone other (K, s, a) (L, t, b) =
    one_kernel c.modulus A K L x y (kernel_unique c.modulus (transposed A) K L two s t) a b
answers_one task.Inverse c (A ∷ []) x y two alone other s t = one_inverse c.modulus A x y two s t
answers_one task.Pivots c (A ∷ []) x y two alone other (qs, s, a) (rs, t, b) =
    let one : c.workers ≡ 1 = alone (inl refl) in
    a ∙ ap pivots_text (selection_one A qs rs (s.one_worker one) (t.one_worker one)) ∙ sym b
answers_one task.Trace c (A ∷ []) x y two alone other (s, is, a) (t, are, b) = a ∙ trace_one c.modulus A c.workers s t (alone (inr refl)) is are ∙ sym b
answers_one (task.Drill g) c [] x y two alone other (E, s, a) (F, t, b) =
    a ∙ ap (summary_of c.modulus) (rref_unique c.modulus (generated c.modulus g) E F two s t) ∙ sym b
answers_one task.Rank c [] x y two alone other s t = absurd s
answers_one task.Rank c (A ∷ B ∷ values) x y two alone other s t = absurd s
answers_one task.Rref c [] x y two alone other s t = absurd s
answers_one task.Rref c (A ∷ B ∷ values) x y two alone other s t = absurd s
answers_one task.Kernel c [] x y two alone other s t = absurd s
answers_one task.Kernel c (A ∷ B ∷ values) x y two alone other s t = absurd s
answers_one task.LeftKernel c [] x y two alone other s t = absurd s
answers_one task.LeftKernel c (A ∷ B ∷ values) x y two alone other s t = absurd s
answers_one task.Inverse c [] x y two alone other s t = absurd s
answers_one task.Inverse c (A ∷ B ∷ values) x y two alone other s t = absurd s
answers_one task.Pivots c [] x y two alone other s t = absurd s
answers_one task.Pivots c (A ∷ B ∷ values) x y two alone other s t = absurd s
answers_one task.Solve c [] x y two alone other s t = absurd s
answers_one task.Solve c (A ∷ []) x y two alone other s t = absurd s
answers_one task.Solve c (A ∷ B ∷ C ∷ values) x y two alone other s t = absurd s
answers_one task.Check c values x y two alone other s t = absurd s
answers_one task.Trace c [] x y two alone other s t = absurd s
answers_one task.Trace c (A ∷ B ∷ values) x y two alone other s t = absurd s
answers_one task.Replay c values x y two alone other s t = absurd s
answers_one task.Grow c values x y two alone other s t = absurd s
answers_one (task.Certify k) c values x y two alone other s t = absurd (other k refl)
answers_one (task.Drill g) c (A ∷ values) x y two alone other s t = absurd s

one_answers : (p : ℕ) (values : List Matrix) (lines : List (List (List ℕ))) (x y : List ℕ) → 2 ≤ p → AnswersScript p values lines x → AnswersScript p values lines y → x ≡ y
one_answers p (A ∷ []) lines x y two s t = one_script p A lines x y two s t
one_answers p [] lines x y two s t = absurd s
one_answers p (A ∷ B ∷ values) lines x y two s t = absurd s

pub one_answer : IsOneAnswer
one_answer c said x y two alone other s t = go c.task alone other s t
  where
    go : (t : Task) → ((t ≡ task.Pivots) ⊎ (t ≡ task.Trace) → c.workers ≡ 1) → ((k : CertKind) → t ≢ task.Certify k) → AnswerTo t c said x → AnswerTo t c said y → x ≡ y
    go task.Rank alone other s t = answers_one task.Rank c said.matrices x y two alone other s t
    go task.Rref alone other s t = answers_one task.Rref c said.matrices x y two alone other s t
    go task.Kernel alone other s t = answers_one task.Kernel c said.matrices x y two alone other s t
    go task.Solve alone other s t = answers_one task.Solve c said.matrices x y two alone other s t
    go task.LeftKernel alone other s t = answers_one task.LeftKernel c said.matrices x y two alone other s t
    go task.Inverse alone other s t = answers_one task.Inverse c said.matrices x y two alone other s t
    go task.Pivots alone other s t = answers_one task.Pivots c said.matrices x y two alone other s t
    go task.Check alone other s t = one_verdict (IsCertified c.modulus said) x y s t
    go task.Trace alone other s t = answers_one task.Trace c said.matrices x y two alone other s t
    go task.Replay alone other s t = one_verdict (HasLawfulTrace c.modulus said) x y s t
    go task.Grow alone other s t = one_answers c.modulus said.matrices said.lines x y two s t
    go (task.Certify k) alone other s t = absurd (other k refl)
    go (task.Drill g) alone other s t = answers_one (task.Drill g) c said.matrices x y two alone other s t
