-- How a batch ends: as a run does, but for the line that names a right-hand side of a wrong shape; and what comes of an input that wasn't read.
use Rattle.std.specs.Prelude.{Bool, ℕ, List, [], ◌∷◌, ◌++◌, codes}
use Rattle.std.specs.Fmt.{decimal}
use Rattle.sms_text.specs.declared.kind.TextError.{TextError}
use Rattle.sms_text.specs.declared.kind.TextError.TheVariants as error
use Rattle.sms_text.specs.Stream.{SinkState}
use Rattle.spasm_run.specs.declared.status.Status.{Status}
use Rattle.spasm_run.specs.declared.status.Status.TheVariants as run
use Rattle.spasm_run.specs.Status.{SaysWhy, Tells, code_of, is_answered, is_unread, is_written}
use Rattle.batch_solve.specs.declared.batch_status.BatchStatus.{BatchStatus}
use Rattle.batch_solve.specs.declared.batch_status.BatchStatus.TheVariants as status

-- the status of a run that ends so
abbrev pub run_status : BatchStatus → Status
run_status status.Done = run.Done
run_status status.Usage = run.Usage
run_status (status.BadText line k) = run.BadText line k
run_status (status.Shape question height width) = run.Shape height width
run_status status.ReadFault = run.ReadFault
run_status status.WriteFault = run.WriteFault
run_status status.Memory = run.Memory
run_status (status.Wide height width) = run.Wide height width

-- the program's exit status
abbrev pub batch_code : BatchStatus → ℕ
batch_code s = code_of (run_status s)

-- the line that names a right-hand side of a wrong shape
abbrev pub shape_line : ℕ → ℕ → ℕ → List ℕ
shape_line height width question = codes "error 4 shape " ++ decimal height ++ 32 ∷ decimal width
    ++ codes " question " ++ decimal question ++ 10 ∷ []

-- all answers were written whole, so that there is no fault line
abbrev pub is_batch_done : BatchStatus → Bool
is_batch_done s = is_answered (run_status s)

-- the output was written to: all answers, or a part of them
abbrev pub is_batch_written : BatchStatus → Bool
is_batch_written s = is_written (run_status s)

-- the source failed
abbrev pub is_read_fault : BatchStatus → Bool
is_read_fault s = is_unread (run_status s)

-- the error stream is as it was, or tells the fault
abbrev pub BatchSaysWhy : BatchStatus → SinkState → SinkState → Type 0
BatchSaysWhy (status.Shape question height width) old new = Tells (shape_line height width question) old new
BatchSaysWhy s old new = SaysWhy (run_status s) old new

-- the status of a batch whose input wasn't read
abbrev pub batch_status_of : TextError → BatchStatus
batch_status_of (error.Bad line k) = status.BadText line k
batch_status_of error.Read = status.ReadFault
batch_status_of error.Memory = status.Memory
