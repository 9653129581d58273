-- One run behind another: what the first wrote stands behind the text that it read, and the second reads both.
use Rattle.std.specs.Prelude.{◌≡◌, ◌≤◌, ◌⊎◌, false, ℕ, List, [], ◌∷◌, ◌++◌, Some, codes, length}
use Rattle.residue_words.specs.Residues.{IsPrime}
use Rattle.sms_text.specs.Stream.{Gained, Rose}
use Rattle.sms_text.specs.Text.{Header, Item, Reads, Request}
use Rattle.certificates.specs.declared.cert_kind.CertKind.{CertKind}
use Rattle.spasm_run.specs.declared.status.Status.{Status}
use Rattle.spasm_run.specs.declared.status.Status.TheVariants.{Done, Memory}
use Rattle.spasm_words.specs.declared.command.Command.{Command}
use Rattle.spasm_words.specs.declared.command.Task.TheVariants.{Check, Trace, Replay, Certify}
use Rattle.spasm_run.specs.Ran.{IsOffered, Ran, Run, request}
use Rattle.spasm_words.specs.Words.{Accepted}

-- The bytes are what is wanted, up to the end of its last line: complete before the input has ended, so that byte 10 closes this line, and
-- nothing stands behind it.
abbrev pub IsClosedText : Request → List ℕ → Type 0
IsClosedText r bytes = (items : List Item) × Reads r bytes false items []

-- A run of this command was done with this text, which its source told first of all, and its output, which tells, gained the answer.
pub record Answered (r : Run) (c : Command) (text answer : List ℕ) : Type 0 where
  pub ran : Ran r Done
  pub accepted : Accepted r.words c
  pub behind : List ℕ
  pub told : r.source.left ≡ Some (text ++ behind)
  pub closed : IsClosedText (request c r.limit) text
  pub held : List ℕ
  pub tells : r.out.held ≡ Some held
  pub gained : Gained answer r.out r.out_after

-- A run of this command was offered these bytes, no more than it may read, its output did not fail, and it ended so.
pub record EndedOn (r : Run) (c : Command) (bytes : List ℕ) (s : Status) : Type 0 where
  pub ran : Ran r s
  pub offered : IsOffered r c bytes
  pub fits : length bytes ≤ r.limit
  pub steady : ¬ Rose r.out.faults r.out_after.faults

-- it is done and its output gained `yes`, or memory was wanted
abbrev pub SaysYes : Run → Status → Type 0
SaysYes r s = ((s ≡ Done) × Gained (codes "yes\n") r.out r.out_after) ⊎ (s ≡ Memory)

-- the first command certifies, and the second checks, modulo the same number
abbrev pub CertifyAndCheck : Command → Command → Type 0
CertifyAndCheck c d =
    ((kind : CertKind) × (c.task ≡ Certify kind)) × (d.task ≡ Check) × (d.modulus ≡ c.modulus)

-- Modulo a prime, what `certify` wrote for a matrix text, put behind this text, is answered `yes` by `check`.
abbrev pub CertifiedIsChecked : Type 0
CertifiedIsChecked = (first second : Run) (c d : Command) (text answer : List ℕ) (s : Status) →
    IsPrime c.modulus → CertifyAndCheck c d → Answered first c text answer →
    EndedOn second d (text ++ answer) s → SaysYes second s

-- the first command traces, and the second replays, modulo the same number
abbrev pub TraceAndReplay : Command → Command → Type 0
TraceAndReplay c d = (c.task ≡ Trace) × (d.task ≡ Replay) × (d.modulus ≡ c.modulus)

-- What `trace` wrote for a matrix text, put behind this text, is answered `yes` by `replay`, for every modulus.
abbrev pub TracedIsReplayed : Type 0
TracedIsReplayed = (first second : Run) (c d : Command) (text answer : List ℕ) (s : Status) →
    TraceAndReplay c d → Answered first c text answer → EndedOn second d (text ++ answer) s → SaysYes second s

-- the text of the matrix (5), and what is wanted of it
abbrev pub five_text : List ℕ
five_text = codes "1 1 M\n1 1 5\n0 0 0\n"

abbrev pub reading_one : Request
reading_one = record { modulus = 7; limit = 1000; due = Header ∷ [] }

-- a closed text; one whose last line isn't closed, and one behind which a line stands
pub record AreClosedTexts : Type 0 where
  pub closed : IsClosedText reading_one five_text
  pub void : IsClosedText reading_one (codes "% five\n\n" ++ five_text)
  pub unclosed : ¬ IsClosedText reading_one (codes "1 1 M\n1 1 5\n0 0 0")
  pub followed : ¬ IsClosedText reading_one (five_text ++ codes "\n")
