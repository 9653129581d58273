-- What a run did: each status with its cause, and what a run comes to on a whole input.
use Rattle.std.specs.Prelude.{◌≡◌, ◌⊎◌, true, ℕ, List, [], ◌++◌, Some, None}
use Rattle.sms_text.specs.declared.kind.Kind.{Kind}
use Rattle.sms_text.specs.Reading.{Draws, IsShort, untouched}
use Rattle.sms_text.specs.Stream.{SinkState, SourceState, Gained, GainedAndFailed, Rose}
use Rattle.sms_text.specs.Text.{FirstFault, Request, Short, reading}
use Rattle.spasm_run.specs.declared.status.Status.{Status}
use Rattle.spasm_run.specs.declared.status.Status.TheVariants as status
use Rattle.spasm_words.specs.declared.command.Command.{Command}
use Rattle.spasm_run.specs.Answers.{AnswerOf, EndsWith, RestsOn, misfit, wanted}
use Rattle.spasm_run.specs.Contents.{Contents}
use Rattle.spasm_run.specs.Input.{HasContents, Input, supply_behind}
use Rattle.spasm_run.specs.Shapes.{HasAnswerShape}
use Rattle.spasm_run.specs.Status.{is_unread}
use Rattle.spasm_words.specs.Words.{Accepted, AreRefused}

-- what there is to see of a run: its words, and of how many bytes its input may be; its source and its output, before it and after it
pub record Run : Type 0 where
  pub words : List (List ℕ)
  pub limit : ℕ
  pub source : SourceState
  pub source_after : SourceState
  pub out : SinkState
  pub out_after : SinkState

-- the texts that a command reads
abbrev pub request : Command → ℕ → Request
request c limit = record { modulus = c.modulus; limit = limit; due = wanted c.task }

-- the words ask for no command that reads anything
abbrev pub WantNothing : List (List ℕ) → Type 0
WantNothing words = (c : Command) → Accepted words c → wanted c.task ≡ []

-- the input is whole, its matrices are of the shapes that are wanted, this text has the shape of an answer, and is the answer where it has
-- what it rests on, and with it a run ends with this status
pub record HasAnswer (c : Command) (limit : ℕ) (input : Input) (text : List ℕ) (s : Status) : Type 0 where
  pub said : Contents
  pub reads : HasContents (request c limit) input said
  pub fits : misfit c.task said.matrices ≡ None
  pub shape : HasAnswerShape c.task c.modulus said.matrices text
  pub answers : RestsOn c.task c.modulus → AnswerOf c said text
  pub ends : EndsWith c.task c.modulus said s

-- the input is whole, and its matrices are refused for their shapes
pub record IsMisfit (c : Command) (limit : ℕ) (input : Input) (s : Status) : Type 0 where
  pub said : Contents
  pub reads : HasContents (request c limit) input said
  pub refused : misfit c.task said.matrices ≡ Some s

-- the words ask for a command, and this text is its answer, with which a run ends so
abbrev pub IsAnswered : List (List ℕ) → ℕ → Input → List ℕ → Status → Type 0
IsAnswered words limit input text s = (c : Command) × Accepted words c × HasAnswer c limit input text s

-- why there is no answer
abbrev pub HasNoAnswer : List (List ℕ) → ℕ → Input → Status → Type 0
HasNoAnswer words limit input status.Usage = AreRefused words
HasNoAnswer words limit input (status.BadText line k) =
    (c : Command) × Accepted words c × FirstFault (request c limit) input.bytes input.ended line k
HasNoAnswer words limit input (status.Shape height width) =
    (c : Command) × Accepted words c × IsMisfit c limit input (status.Shape height width)
HasNoAnswer words limit input status.ReadFault =
    (c : Command) × Accepted words c × (reading (request c limit) input.ended input.bytes ≡ Short)
HasNoAnswer words limit input status.Memory = Unit {0}
HasNoAnswer words limit input (status.Wide height width) =
    (c : Command) × Accepted words c × IsMisfit c limit input (status.Wide height width)
HasNoAnswer words limit input _ = ⊥

-- the output gained the answer, with which the run ends so
abbrev pub HasWritten : Run → Input → Status → Type 0
HasWritten r input s =
    (text : List ℕ) × IsAnswered r.words r.limit input text s × Gained text r.out r.out_after

-- The run and its input explain this status: the output gained the answer; or it gained a part of the answer, and failed; or there is no
-- answer, and the output is as it was.
abbrev pub Explains : Run → Input → Status → Type 0
Explains r input status.Done = HasWritten r input status.Done
Explains r input status.No = HasWritten r input status.No
Explains r input status.WriteFault =
    (part : List ℕ) × (rest : List ℕ) × (s : Status) × IsAnswered r.words r.limit input (part ++ rest) s
    × GainedAndFailed part r.out r.out_after
Explains r input s = HasNoAnswer r.words r.limit input s × (r.out_after ≡ r.out)

-- the words ask for a command, and these bytes are too few to tell what they say or a fault
abbrev pub AreTooFew : List (List ℕ) → ℕ → List ℕ → Type 0
AreTooFew words limit bytes = (c : Command) × Accepted words c × IsShort (request c limit) bytes

-- the status is one of these
abbrev pub IsEither : {S : Type 0} → S → S → S → Type 0
IsEither one other s = (s ≡ one) ⊎ (s ≡ other)

-- this is the status of a run that wrote its answer, or memory was wanted
abbrev pub EndsOrMemory : Command → Contents → Status → Type 0
EndsOrMemory c said s = EndsWith c.task c.modulus said s ⊎ (s ≡ status.Memory)

-- the words ask for this command, and the source, which did not fail, told that these bytes are left in it
pub record IsOffered (r : Run) (c : Command) (bytes : List ℕ) : Type 0 where
  pub accepted : Accepted r.words c
  pub told : r.source.left ≡ Some bytes
  pub steady : ¬ Rose r.source.faults r.source_after.faults

-- all of them
abbrev pub whole_input : List ℕ → Input
whole_input bytes = record { bytes = bytes; ended = true }

-- What a run comes to if memory isn't wanted: words that aren't accepted are refused; of a whole input the first fault is named, matrices
-- of wrong shapes are refused, and what fits is answered, unless the output fails: with Done, or with No for a certificate that isn't valid
-- or a trace that isn't lawful.
pub record Completes (r : Run) (s : Status) : Type 0 where
  pub usage : AreRefused r.words → IsEither status.Usage status.Memory s
  pub fault : (c : Command) (bytes : List ℕ) (line : ℕ) (k : Kind) → IsOffered r c bytes →
      FirstFault (request c r.limit) bytes true line k → IsEither (status.BadText line k) status.Memory s
  pub shape : (c : Command) (bytes : List ℕ) (t : Status) → IsOffered r c bytes →
      IsMisfit c r.limit (whole_input bytes) t → IsEither t status.Memory s
  pub done : (c : Command) (bytes : List ℕ) (said : Contents) → IsOffered r c bytes →
      HasContents (request c r.limit) (whole_input bytes) said → misfit c.task said.matrices ≡ None →
      ¬ Rose r.out.faults r.out_after.faults → EndsOrMemory c said s

-- What a run did: it took this input from the source, which failed only where the status says so, and needed the last pull of it;
-- its status has a cause; and it came to what it had to.
pub record Ran (r : Run) (s : Status) : Type 0 where
  pub input : Input
  pub draws : Draws (AreTooFew r.words r.limit) (is_unread s) input.bytes
      (untouched r.source) (supply_behind input r.source_after)
  pub cause : Explains r input s
  pub complete : Completes r s
