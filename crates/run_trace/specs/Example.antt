-- A trace of the 3 x 3 example modulo 7, the lines that say it, and a trace that isn't lawful.
use Rattle.std.specs.Prelude.{◌≡◌, ℕ, List, [], ◌∷◌, Some, codes}
use Rattle.pivot_table.specs.Example.{pivot_example}
use Rattle.pivot_table.specs.History.{pair}
use Rattle.run_trace.specs.declared.publication.Publication.{Publication}
use Rattle.run_trace.specs.declared.trace.Trace.{Trace}
use Rattle.run_trace.specs.Lawful.{IsLawfulTrace}
use Rattle.run_trace.specs.TraceText.{trace_said}

abbrev pub published_at : ℕ → ℕ → ℕ → Publication
published_at r c v = record { pair = pair r c; version = v }

abbrev pub trace_example : Trace
trace_example = record { p = 7; publications = published_at 0 0 0 ∷ published_at 1 1 1 ∷ [] }

-- the words of its lines
abbrev pub trace_lines : List (List (List ℕ))
trace_lines = (codes "trace" ∷ codes "7" ∷ codes "2" ∷ []) ∷ (codes "1" ∷ codes "1" ∷ codes "0" ∷ [])
    ∷ (codes "2" ∷ codes "2" ∷ codes "1" ∷ []) ∷ []

-- what holds of them
pub record AreWorkedTraces : Type 0 where
  pub said : trace_said trace_lines ≡ Some trace_example
  pub lawful : IsLawfulTrace 7 pivot_example trace_example
  pub other_modulus : ¬ IsLawfulTrace 5 pivot_example trace_example
  pub late : ¬ IsLawfulTrace 7 pivot_example (record { p = 7; publications = published_at 0 0 1 ∷ [] })
