-- From a trace, and from what a replay says of one, to the answer.
use Rattle.std.proofs.Common.{ℕ, Bool, true, false, ◌≡◌, ◌∙◌, IsTrue, [], ◌∷◌, Some, inl, inr, refl, sym, subst}
use Rattle.std.specs.Prelude.{◌↔◌}
use Rattle.sparse_rows.specs.Rows.{ResidueMatrix}
use Rattle.run_trace.specs.declared.trace.Trace.{Trace}
use Rattle.run_trace.specs.Lawful.{IsLawfulTrace, IsTraceOf}
use Rattle.run_trace.specs.TraceText.{HasTraceText}
use Rattle.spasm_run.specs.declared.command_answer.CommandAnswer.TheVariants as answer
use Rattle.spasm_words.specs.declared.command.Command.{Command}
use Rattle.spasm_words.specs.declared.command.Task.TheVariants as task
use Rattle.spasm_run.specs.Computed.{IsAnswerTo, asking}
use Rattle.spasm_run.specs.Contents.{AreToReplay, Contents, HasLawfulTrace, matrices_alone}

-- a trace that was found
pub trace_answers : (A : ResidueMatrix) (c : Command) (t : Trace) → IsTraceOf A.modulus A.matrix c.workers t → HasTraceText t →
    IsAnswerTo (asking task.Trace A.modulus c) (matrices_alone (A.matrix ∷ [])) (answer.Trace t)
trace_answers A c t is text = record { small = text; fits = refl; shape = tt; answers = λ any. (t, is, refl); ends = refl }

module _ (p : ℕ) (A : ResidueMatrix) (t : Trace) (said : Contents) (are : AreToReplay A t said) where
  has_lawful : IsLawfulTrace p A.matrix t → HasLawfulTrace p said
  has_lawful is = record { matrix = A.matrix; trace = t; matrices = are.matrices; says = are.says; lawful = is }

  -- the contents are one matrix and one trace
  lawful_here : HasLawfulTrace p said → IsLawfulTrace p A.matrix t
  lawful_here is =
      let both : is.matrix ∷ [] ≡ A.matrix ∷ [] = sym is.matrices ∙ are.matrices in
      let matrix : is.matrix ≡ A.matrix = cc in
      let same : Some is.trace ≡ Some t = sym is.says ∙ are.says in
      let trace : is.trace ≡ t = cc in
      subst (λ M. IsLawfulTrace p M t) matrix (subst (IsLawfulTrace p is.matrix) trace is.lawful)

  false_no : IsTrue false → ⊥
  false_no e = cc

  pub replay_answers : (d : Command) (lawful : Bool) → (IsTrue lawful ↔ IsLawfulTrace p A.matrix t) → IsAnswerTo (asking task.Replay p d) said (answer.Verdict lawful)
  replay_answers d true h = let is = has_lawful (h.0 refl) in record { small = tt; fits = refl; shape = tt; answers = λ any. inl (is, refl); ends = inl (is, refl) }
  replay_answers d false h =
      let none : ¬ HasLawfulTrace p said = λ is. false_no (h.1 (lawful_here is)) in
      record { small = tt; fits = refl; shape = tt; answers = λ any. inr (none, refl); ends = inr (none, refl) }
