-- Traces as texts: what their lines say, and the one text that is written (this project's format).
use Rattle.std.specs.Prelude.{◌≡◌, ◌<◌, ◌≤◌, ◌+◌, ◌-◌, ℕ, List, [], ◌∷◌, ◌++◌, Option, None, Some, All, length, map, codes}
use Rattle.std.specs.Fmt.{decimal}
use Rattle.std.specs.List.{flat_map}
use Rattle.residue_words.specs.declared.modulus.TheConstants.{MODULUS_BOUND}
use Rattle.residue_words.specs.Matrix.{Matrix}
use Rattle.sms_text.specs.declared.reader.TheConstants.{LARGEST_TEXT_SIZE}
use Rattle.sms_text.specs.Text.{Due, Item, Words, number_at}
use Rattle.sms_text.specs.Written.{entry_line}
use Rattle.run_trace.specs.declared.publication.Publication.{Publication}
use Rattle.run_trace.specs.declared.trace.Trace.{Trace}

-- the publication of a line's words: its row and its column count from 1, its version from 0
abbrev pub publication_of : List (List ℕ) → Publication
publication_of ws = record {
  pair = record { row = number_at ws 0 - 1; col = number_at ws 1 - 1 };
  version = number_at ws 2;
}

-- the trace that these lines of words say
abbrev pub trace_said : List (List (List ℕ)) → Option Trace
trace_said [] = None
trace_said (title ∷ steps) = Some (record { p = number_at title 1; publications = map publication_of steps })

-- a whole trace, which is this one
pub record SaysTrace (t : Trace) (items : List Item) (due : List Due) : Type 0 where
  pub whole : due ≡ []
  pub lines : List (List (List ℕ))
  pub items_are : items ≡ map Words lines
  pub said : trace_said lines ≡ Some t

-- `trace P K`
abbrev pub trace_title : ℕ → ℕ → List ℕ
trace_title p k = codes "trace " ++ decimal p ++ 32 ∷ decimal k ++ 10 ∷ []

-- `i j v`, a line each
abbrev pub publication_lines : List Publication → List ℕ
publication_lines list = flat_map (λ (x : Publication).
    entry_line (x.pair.row + 1) (x.pair.col + 1) x.version) list

-- the first line, and a line for each publication
abbrev pub trace_text : ℕ → List Publication → List ℕ
trace_text p list = trace_title p (length list) ++ publication_lines list

-- numbers that a line can give
pub record IsTextPublication (x : Publication) : Type 0 where
  pub row : x.pair.row < LARGEST_TEXT_SIZE
  pub col : x.pair.col < LARGEST_TEXT_SIZE
  pub version : x.version ≤ LARGEST_TEXT_SIZE

-- the numbers of a trace are those that a text can give
pub record HasTraceText (t : Trace) : Type 0 where
  pub modulus : t.p < MODULUS_BOUND
  pub count : length t.publications ≤ LARGEST_TEXT_SIZE
  pub publications : All IsTextPublication t.publications

-- a matrix of sizes that a text can give
abbrev pub HasTextSizes : Matrix → Type 0
HasTextSizes A = (A.height ≤ LARGEST_TEXT_SIZE) × (A.width ≤ LARGEST_TEXT_SIZE)
