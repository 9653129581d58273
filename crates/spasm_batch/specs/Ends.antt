-- How the program for many right-hand sides ends.
use Rattle.std.specs.Prelude.{◌≡◌, ◌⊎◌, ℕ, List}
use Rattle.sms_text.specs.declared.reader.TheConstants.{LARGEST_INPUT}
use Rattle.sms_text.specs.Stream.{SinkState}
use Rattle.batch_solve.specs.declared.batch_status.BatchStatus.{BatchStatus}
use Rattle.batch_solve.specs.declared.batch_status.BatchStatus.TheVariants.{WriteFault}
use Rattle.spasm_run.specs.Ran.{Run}
use Rattle.batch_solve.specs.BatchRan.{BatchRan}
use Rattle.batch_solve.specs.BatchStatus.{BatchSaysWhy, batch_code}
use Rattle.std_edge.specs.Edge.{AreLeft, Told, fresh_sink, fresh_source}

-- It ends with the code of the status of a batch of these words, on its input and its output as they were. The error stream gained the fault
-- line, and the streams are what the batch left of them: all that was put is in the output, and nothing else, unless writing failed.
pub record BatchEndsFor (words : List (List ℕ)) (before after : Told) (code : ℕ) : Type 0 where
  pub run : Run
  pub status : BatchStatus
  pub of_words : run.words ≡ words
  pub limit : run.limit ≡ LARGEST_INPUT
  pub source : run.source ≡ fresh_source before.input
  pub out : run.out ≡ fresh_sink before.output
  pub ran : BatchRan run status
  pub code_is : code ≡ batch_code status
  pub whole : (run.out_after.faults ≡ 0) ⊎ (status ≡ WriteFault)
  pub errors : SinkState
  pub says : BatchSaysWhy status (fresh_sink before.errors) errors
  pub left : AreLeft after run.source_after run.out_after errors
