-- How the program ends.
use Rattle.std.specs.Prelude.{◌≡◌, ◌⊎◌, ℕ, List}
use Rattle.sms_text.specs.declared.reader.TheConstants.{LARGEST_INPUT}
use Rattle.sms_text.specs.Stream.{SinkState}
use Rattle.spasm_run.specs.declared.status.Status.{Status}
use Rattle.spasm_run.specs.declared.status.Status.TheVariants.{WriteFault}
use Rattle.spasm_run.specs.Ran.{Ran, Run}
use Rattle.spasm_run.specs.Status.{SaysWhy, code_of}
use Rattle.std_edge.specs.Edge.{AreLeft, Told, fresh_sink, fresh_source}

-- It ends with the code of the status of a run of these words, on its input and its output as they were. The error stream gained the fault
-- line, and the streams are what the run left of them: all that was put is in the output, and nothing else, unless writing failed.
pub record EndsFor (words : List (List ℕ)) (before after : Told) (code : ℕ) : Type 0 where
  pub run : Run
  pub status : Status
  pub of_words : run.words ≡ words
  pub limit : run.limit ≡ LARGEST_INPUT
  pub source : run.source ≡ fresh_source before.input
  pub out : run.out ≡ fresh_sink before.output
  pub ran : Ran run status
  pub code_is : code ≡ code_of status
  pub whole : (run.out_after.faults ≡ 0) ⊎ (status ≡ WriteFault)
  pub errors : SinkState
  pub says : SaysWhy status (fresh_sink before.errors) errors
  pub left : AreLeft after run.source_after run.out_after errors
