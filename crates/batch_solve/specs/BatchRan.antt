-- What a batch did: each status with its cause, and what it comes to on a whole input.
use Rattle.std.specs.Prelude.{◌≡◌, ◌+◌, true, ℕ, List, ◌++◌, Some, None, replicate}
use Rattle.residue_words.specs.Residues.{IsPrime}
use Rattle.sms_text.specs.declared.kind.Kind.{Kind}
use Rattle.sms_text.specs.Reading.{Draws, IsShort, untouched}
use Rattle.sms_text.specs.Stream.{Gained, GainedAndFailed, Rose}
use Rattle.sms_text.specs.Text.{FirstFault, Header, Request, Short, reading}
use Rattle.spasm_run.specs.Contents.{Contents}
use Rattle.spasm_run.specs.Input.{HasContents, Input, supply_behind}
use Rattle.spasm_run.specs.Ran.{IsEither, Run, whole_input}
use Rattle.batch_solve.specs.declared.batch_status.BatchStatus.{BatchStatus}
use Rattle.batch_solve.specs.declared.batch_status.BatchStatus.TheVariants as status
use Rattle.batch_solve.specs.declared.batch_words.BatchCommand.{BatchCommand}
use Rattle.batch_solve.specs.BatchAnswers.{AnswersBatch, batch_misfit}
use Rattle.batch_solve.specs.BatchStatus.{is_read_fault}
use Rattle.batch_solve.specs.BatchWords.{AcceptedBatch, AskForNoBatch}

-- the texts that a batch reads: a matrix, and the right-hand sides
abbrev pub batch_request : BatchCommand → ℕ → Request
batch_request c limit = record {
  modulus = c.modulus;
  limit = limit;
  due = replicate (c.count + 1) Header;
}

-- the input is whole, its matrices are of the shapes that are wanted, and this text is the answer where the modulus is prime
pub record HasBatchAnswer (c : BatchCommand) (limit : ℕ) (input : Input) (text : List ℕ) : Type 0 where
  pub said : Contents
  pub reads : HasContents (batch_request c limit) input said
  pub fits : batch_misfit said.matrices ≡ None
  pub answers : IsPrime c.modulus → AnswersBatch c.modulus said.matrices text

-- the input is whole, and its matrices are refused for their shapes
pub record IsBatchMisfit (c : BatchCommand) (limit : ℕ) (input : Input) (s : BatchStatus) : Type 0 where
  pub said : Contents
  pub reads : HasContents (batch_request c limit) input said
  pub refused : batch_misfit said.matrices ≡ Some s

-- the words ask for a batch, and this text is its answer
abbrev pub IsBatchAnswered : List (List ℕ) → ℕ → Input → List ℕ → Type 0
IsBatchAnswered words limit input text =
    (c : BatchCommand) × AcceptedBatch words c × HasBatchAnswer c limit input text

-- the answer of a batch to the same words and bytes is one text, for a prime modulus
abbrev pub IsOneBatchAnswer : Type 0
IsOneBatchAnswer = (words : List (List ℕ)) (limit : ℕ) (input : Input) (c : BatchCommand) →
    (text other : List ℕ) →
    AcceptedBatch words c → IsPrime c.modulus →
    IsBatchAnswered words limit input text → IsBatchAnswered words limit input other → text ≡ other

-- why there is no answer
abbrev pub HasNoBatchAnswer : List (List ℕ) → ℕ → Input → BatchStatus → Type 0
HasNoBatchAnswer words limit input status.Usage = AskForNoBatch words
HasNoBatchAnswer words limit input (status.BadText line k) = (c : BatchCommand) × AcceptedBatch words c
    × FirstFault (batch_request c limit) input.bytes input.ended line k
HasNoBatchAnswer words limit input (status.Shape question height width) =
    (c : BatchCommand) × AcceptedBatch words c
    × IsBatchMisfit c limit input (status.Shape question height width)
HasNoBatchAnswer words limit input status.ReadFault = (c : BatchCommand) × AcceptedBatch words c
    × (reading (batch_request c limit) input.ended input.bytes ≡ Short)
HasNoBatchAnswer words limit input status.Memory = Unit {0}
HasNoBatchAnswer words limit input (status.Wide height width) =
    (c : BatchCommand) × AcceptedBatch words c × IsBatchMisfit c limit input (status.Wide height width)
HasNoBatchAnswer words limit input _ = ⊥

-- The run and its input explain this status: the output gained the answer; or it gained a part of the answer, and failed; or there is no
-- answer, and the output is as it was.
abbrev pub ExplainsBatch : Run → Input → BatchStatus → Type 0
ExplainsBatch r input status.Done =
    (text : List ℕ) × IsBatchAnswered r.words r.limit input text × Gained text r.out r.out_after
ExplainsBatch r input status.WriteFault = (part : List ℕ) × (rest : List ℕ)
    × IsBatchAnswered r.words r.limit input (part ++ rest) × GainedAndFailed part r.out r.out_after
ExplainsBatch r input s = HasNoBatchAnswer r.words r.limit input s × (r.out_after ≡ r.out)

-- the words ask for a batch, and these bytes are too few to tell what they say or a fault
abbrev pub AreTooFewForBatch : List (List ℕ) → ℕ → List ℕ → Type 0
AreTooFewForBatch words limit bytes =
    (c : BatchCommand) × AcceptedBatch words c × IsShort (batch_request c limit) bytes

-- the words ask for this batch, and the source, which did not fail, told that these bytes are left in it
pub record IsBatchOffered (r : Run) (c : BatchCommand) (bytes : List ℕ) : Type 0 where
  pub accepted : AcceptedBatch r.words c
  pub told : r.source.left ≡ Some bytes
  pub steady : ¬ Rose r.source.faults r.source_after.faults

-- What a batch comes to if memory isn't wanted: words that aren't accepted are refused; of a whole input the first fault is named, what
-- doesn't fit is refused, and what fits is answered, unless the output fails.
pub record CompletesBatch (r : Run) (s : BatchStatus) : Type 0 where
  pub usage : AskForNoBatch r.words → IsEither status.Usage status.Memory s
  pub fault : (c : BatchCommand) (bytes : List ℕ) (line : ℕ) (k : Kind) → IsBatchOffered r c bytes →
      FirstFault (batch_request c r.limit) bytes true line k → IsEither (status.BadText line k) status.Memory s
  pub shape : (c : BatchCommand) (bytes : List ℕ) (t : BatchStatus) → IsBatchOffered r c bytes →
      IsBatchMisfit c r.limit (whole_input bytes) t → IsEither t status.Memory s
  pub done : (c : BatchCommand) (bytes : List ℕ) (said : Contents) → IsBatchOffered r c bytes →
      HasContents (batch_request c r.limit) (whole_input bytes) said → batch_misfit said.matrices ≡ None →
      ¬ Rose r.out.faults r.out_after.faults → IsEither status.Done status.Memory s

-- What a batch did: it took this input from the source, which failed only where the status says so, and needed the last pull of it;
-- its status has a cause; and it came to what it had to.
pub record BatchRan (r : Run) (s : BatchStatus) : Type 0 where
  pub input : Input
  pub draws : Draws (AreTooFewForBatch r.words r.limit) (is_read_fault s) input.bytes
      (untouched r.source) (supply_behind input r.source_after)
  pub cause : ExplainsBatch r input s
  pub complete : CompletesBatch r s
