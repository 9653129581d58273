-- What is found for a batch: its replies, or the status with which it ends.
use Rattle.std.specs.Prelude.{◌≡◌, ◌⊎◌, ℕ, Bool, false, List, ◌++◌, None, Some, Result, Ok, Err, Vec, All, codes, map}
use Rattle.std.specs.List.{flat_map}
use Rattle.std.specs.declared.alloc.Global.{Global}
use Rattle.residue_words.specs.Matrix.{Matrix}
use Rattle.residue_words.specs.Residues.{IsPrime}
use Rattle.sparse_rows.specs.Rows.{ResidueMatrix}
use Rattle.byte_streams.specs.declared.write.WriteFault.{WriteFault}
use Rattle.sms_text.specs.declared.kind.TextError.{TextError}
use Rattle.sms_text.specs.Reading.{Draws, untouched}
use Rattle.sms_text.specs.Stream.{SinkState, SourceState}
use Rattle.sms_text.specs.Writing.{Writes}
use Rattle.sms_text.specs.Written.{text_of}
use Rattle.spasm_run.specs.Contents.{Contents, matrices_alone}
use Rattle.spasm_run.specs.Computed.{HasSmallSizes}
use Rattle.spasm_run.specs.Input.{Input, supply_behind}
use Rattle.kernel_solve.specs.declared.prepared.Reply.{Reply}
use Rattle.kernel_solve.specs.declared.prepared.Reply.TheVariants.{Solution, Refuted}
use Rattle.batch_solve.specs.declared.batch_status.BatchStatus.{BatchStatus}
use Rattle.batch_solve.specs.declared.batch_status.BatchStatus.TheVariants as status
use Rattle.batch_solve.specs.BatchAnswers.{AnswersBatch, batch_misfit}
use Rattle.batch_solve.specs.BatchRan.{AreTooFewForBatch, HasNoBatchAnswer, IsBatchAnswered}
use Rattle.batch_solve.specs.BatchStatus.{is_read_fault}

-- the text of a reply, and of replies one behind another
abbrev pub reply_text : Reply → List ℕ
reply_text (Solution x) = codes "solution\n" ++ text_of x.matrix
reply_text (Refuted y) = codes "no solution\n" ++ text_of y.matrix

abbrev pub replies_text : List Reply → List ℕ
replies_text replies = flat_map reply_text replies

-- a reply of sizes that can be written
abbrev pub IsSmallReply : Reply → Type 0
IsSmallReply (Solution x) = HasSmallSizes x.matrix
IsSmallReply (Refuted y) = HasSmallSizes y.matrix

-- the matrices of several texts
abbrev pub matrices_of : List ResidueMatrix → List Matrix
matrices_of texts = map (λ A. A.matrix) texts

-- the contents that they were read as
abbrev pub many_values : Result (Vec ResidueMatrix Global) TextError → Result Contents TextError
many_values (Ok texts) = Ok (matrices_alone (matrices_of texts.items))
many_values (Err e) = Err e

-- replies that answer a batch for these matrices, which are of the shapes that are wanted
pub record AreBatchReplies (p : ℕ) (values : List Matrix) (replies : List Reply) : Type 0 where
  pub small : All IsSmallReply replies
  pub fits : batch_misfit values ≡ None
  pub answers : IsPrime p → AnswersBatch p values (replies_text replies)

-- what comes of a batch for these matrices: replies; or they are refused for their shapes; or memory was wanted
abbrev pub ComesOfBatch : ℕ → List Matrix → Result (Vec Reply Global) BatchStatus → Type 0
ComesOfBatch p values (Ok replies) = AreBatchReplies p values replies.items
ComesOfBatch p values (Err (status.Shape q h w)) = batch_misfit values ≡ Some (status.Shape q h w)
ComesOfBatch p values (Err (status.Wide h w)) = batch_misfit values ≡ Some (status.Wide h w)
ComesOfBatch p values (Err status.Memory) = Unit {0}
ComesOfBatch p values (Err _) = ⊥

-- whether the source failed
abbrev pub is_batch_unread : Result (Vec Reply Global) BatchStatus → Bool
is_batch_unread (Ok replies) = false
is_batch_unread (Err s) = is_read_fault s

-- the replies whose text is the answer to a batch, or why there is none
abbrev pub AreFoundIn : List (List ℕ) → ℕ → Input → Result (Vec Reply Global) BatchStatus → Type 0
AreFoundIn words limit input (Ok replies) = IsBatchAnswered words limit input (replies_text replies.items)
AreFoundIn words limit input (Err s) = HasNoBatchAnswer words limit input s

-- The replies that were found for these words, or why there are none, in the input that was taken from a source, of which nothing was asked
-- before; the last pull of it was needed.
pub record WereFound (words : List (List ℕ)) (limit : ℕ) (result : Result (Vec Reply Global) BatchStatus)
    (old new : SourceState) : Type 0 where
  pub input : Input
  pub draws : Draws (AreTooFewForBatch words limit) (is_batch_unread result) input.bytes
      (untouched old) (supply_behind input new)
  pub found : AreFoundIn words limit input result

-- How a batch ends that found these, and what its output gained: the whole text, or a first part of it; nothing if there are no replies.
abbrev pub WereWritten : Result (Vec Reply Global) BatchStatus → BatchStatus → SinkState → SinkState → Type 0
WereWritten (Ok replies) s old new = ((s ≡ status.Done) × Writes (Ok tt) (replies_text replies.items) old new)
    ⊎ ((fault : WriteFault) × (s ≡ status.WriteFault) × Writes (Err fault) (replies_text replies.items) old new)
WereWritten (Err e) s old new = (s ≡ e) × (new ≡ old)
