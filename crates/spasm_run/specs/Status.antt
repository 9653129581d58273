-- How a run ends: each status' code and fault line, what the error stream gains, and what comes of an input that wasn't read.
use Rattle.std.specs.Prelude.{◌≡◌, ◌⊎◌, Bool, true, false, ℕ, List, [], ◌∷◌, ◌++◌, codes}
use Rattle.std.specs.Fmt.{decimal}
use Rattle.sms_text.specs.declared.kind.TextError.{TextError}
use Rattle.sms_text.specs.declared.kind.TextError.TheVariants as error
use Rattle.sms_text.specs.Kind.{kind_number}
use Rattle.sms_text.specs.Stream.{SinkState, Gained, GainedAndFailed}
use Rattle.spasm_run.specs.declared.status.Status.{Status}
use Rattle.spasm_run.specs.declared.status.Status.TheVariants as status

-- the program's exit status
abbrev pub code_of : Status → ℕ
code_of status.Done = 0
code_of status.No = 1
code_of status.Usage = 2
code_of (status.BadText line k) = 3
code_of (status.Shape height width) = 4
code_of status.ReadFault = 6
code_of status.WriteFault = 7
code_of status.Memory = 8
code_of (status.Wide height width) = 9

-- the line that a status other than Done and No puts on the error stream
abbrev pub fault_line : Status → List ℕ
fault_line status.Done = []
fault_line status.No = []
fault_line status.Usage = codes "error 2 usage\n"
fault_line (status.BadText line k) =
    codes "error 3 line " ++ decimal line ++ codes " kind " ++ decimal (kind_number k) ++ 10 ∷ []
fault_line (status.Shape height width) =
    codes "error 4 shape " ++ decimal height ++ 32 ∷ decimal width ++ 10 ∷ []
fault_line status.ReadFault = codes "error 6 read\n"
fault_line status.WriteFault = codes "error 7 write\n"
fault_line status.Memory = codes "error 8 memory\n"
fault_line (status.Wide height width) =
    codes "error 9 wide " ++ decimal height ++ 32 ∷ decimal width ++ 10 ∷ []

-- the run ended with an answer that was written whole, so that there is no fault line
abbrev pub is_answered : Status → Bool
is_answered status.Done = true
is_answered status.No = true
is_answered _ = false

-- the output was written to: an answer, or a part of one
abbrev pub is_written : Status → Bool
is_written status.WriteFault = true
is_written s = is_answered s

-- the source failed
abbrev pub is_unread : Status → Bool
is_unread status.ReadFault = true
is_unread _ = false

-- a stream gained this line, or a part of it where it failed
abbrev pub Tells : List ℕ → SinkState → SinkState → Type 0
Tells line old new =
    Gained line old new
    ⊎ ((part : List ℕ) × (rest : List ℕ) × (line ≡ part ++ rest) × GainedAndFailed part old new)

-- the error stream is as it was, or tells the fault
abbrev pub SaysWhy : Status → SinkState → SinkState → Type 0
SaysWhy status.Done old new = new ≡ old
SaysWhy status.No old new = new ≡ old
SaysWhy s old new = Tells (fault_line s) old new

-- the status of a run whose input wasn't read
abbrev pub status_of : TextError → Status
status_of (error.Bad line k) = status.BadText line k
status_of error.Read = status.ReadFault
status_of error.Memory = status.Memory
