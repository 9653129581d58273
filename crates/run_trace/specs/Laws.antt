-- Laws of traces.
use Rattle.std.specs.Prelude.{◌≡◌, ◌≤◌, ◌+◌, ◌-◌, Bool, ℕ, List, [], ◌∷◌, ◌++◌, Some, length, map, codes}
use Rattle.std.specs.Fmt.{decimal}
use Rattle.residue_words.specs.Matrix.{Matrix}
use Rattle.residue_words.specs.declared.plain.Pair.{Pair}
use Rattle.pivot_table.specs.Order.{IsOrder, Triangular}
use Rattle.sms_text.specs.Lines.{lines}
use Rattle.sms_text.specs.OuterLines as form
use Rattle.sms_text.specs.Reading.{with_items}
use Rattle.sms_text.specs.Text.{Due, Outer, Item, Words, outer_lines, read}
use Rattle.run_trace.specs.declared.publication.Publication.{Publication}
use Rattle.run_trace.specs.declared.trace.Trace.{Trace}
use Rattle.run_trace.specs.Lawful.{IsLawfulTrace, history_of}
use Rattle.run_trace.specs.TraceText.{HasTraceText, trace_said, trace_text}

-- what the lines of the written text of a trace say, one after another
abbrev pub trace_title_words : Trace → List (List ℕ)
trace_title_words t = codes "trace" ∷ decimal t.p ∷ decimal (length t.publications) ∷ []

abbrev pub publication_words : Publication → List (List ℕ)
publication_words x = decimal (x.pair.row + 1) ∷ decimal (x.pair.col + 1) ∷ decimal x.version ∷ []

abbrev pub trace_items : Trace → List Item
trace_items t = Words (trace_title_words t)
    ∷ map (λ (x : Publication). Words (publication_words x)) t.publications

-- The written text of a trace reads as this trace, modulo whatever the texts around it are, whatever stands behind it and whichever
-- lines are due behind it; the lines behind it are read next, with the room that it leaves, and from the number of the line behind it on.
abbrev pub WrittenTraceReadsBack : Type 0
WrittenTraceReadsBack = (t : Trace) → HasTraceText t →
    (trace_said (outer_lines (trace_items t)) ≡ Some t)
    × ((p : ℕ) (ended : Bool) (room number : ℕ) (dues : List Due) (rest : List ℕ) →
    length (trace_text t.p t.publications) ≤ room →
    read p ended room number (Outer form.Trace ∷ dues) (lines (trace_text t.p t.publications ++ rest))
    ≡ with_items (trace_items t) (read p ended (room - length (trace_text t.p t.publications))
    (number + length (trace_items t)) dues (lines rest)))

-- the history of a lawful trace has an order in which it is triangular
abbrev pub LawfulTraceIsTriangular : Type 0
LawfulTraceIsTriangular = (p : ℕ) (A : Matrix) (t : Trace) → IsLawfulTrace p A t →
    (o : List Pair) × IsOrder A (history_of t.publications) o × Triangular A o
