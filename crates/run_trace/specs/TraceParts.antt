-- The parts of a trace's text that are read one after another.
use Rattle.std.specs.Prelude.{◌≡◌, ◌<◌, ◌≤◌, true, ℕ, List, [], ◌∷◌}
use Rattle.residue_words.specs.declared.modulus.TheConstants.{MODULUS_BOUND}
use Rattle.sms_text.specs.declared.reader.TheConstants.{LARGEST_TEXT_SIZE}
use Rattle.sms_text.specs.OuterLines as form
use Rattle.sms_text.specs.OuterLines.{is_trace}
use Rattle.sms_text.specs.Text.{Due, Item, Words, due_behind, number_at}
use Rattle.run_trace.specs.declared.trace_title.TraceTitle.{TraceTitle}

-- these words are a first line that says this
pub record IsTraceTitle (ws : List (List ℕ)) (t : TraceTitle) : Type 0 where
  pub form : is_trace ws ≡ true
  pub modulus : number_at ws 1 ≡ t.p
  pub count : number_at ws 2 ≡ t.count
  pub modulus_below : t.p < MODULUS_BOUND
  pub count_small : t.count ≤ LARGEST_TEXT_SIZE

-- the first line was read, and what it makes due is due
pub record SaysTraceTitle (t : TraceTitle) (items : List Item) (due : List Due) : Type 0 where
  pub words : List (List ℕ)
  pub items_are : items ≡ Words words ∷ []
  pub due_are : due ≡ due_behind form.Trace words
  pub title : IsTraceTitle words t
