-- What is found for matrices and for words: an answer, or the status with which a run ends.
use Rattle.std.specs.Prelude.{◌≡◌, ◌⊎◌, ◌<◌, if◌then◌else◌, ℕ, List, ◌++◌, Bool, false, Some, None, Result, Ok, Err, All, codes}
use Rattle.residue_words.specs.Matrix.{Matrix}
use Rattle.certificates.specs.Certificate.{certificate_of}
use Rattle.certificates.specs.CertificateText.{HasText, certificate_text}
use Rattle.run_trace.specs.TraceText as trace
use Rattle.sparse_rows.specs.Rows.{LARGEST_SIZE}
use Rattle.byte_streams.specs.declared.write.WriteFault.{WriteFault}
use Rattle.sms_text.specs.Reading.{Draws, untouched}
use Rattle.sms_text.specs.Stream.{SinkState, SourceState}
use Rattle.sms_text.specs.Writing.{Writes}
use Rattle.sms_text.specs.Written.{IsSmallPlace, text_of}
use Rattle.grow_form.specs.Scripts.{AnswerFitsText, answers_text, rank_line}
use Rattle.spasm_run.specs.declared.command_answer.CommandAnswer.{CommandAnswer}
use Rattle.spasm_run.specs.declared.command_answer.CommandAnswer.TheVariants as answer
use Rattle.spasm_run.specs.declared.status.Status.{Status}
use Rattle.spasm_run.specs.declared.status.Status.TheVariants as status
use Rattle.spasm_words.specs.declared.command.Command.{Command}
use Rattle.spasm_words.specs.declared.command.Task.{Task}
use Rattle.spasm_run.specs.Answers.{AnswerOf, EndsWith, RestsOn, misfit, pivots_text}
use Rattle.spasm_run.specs.Contents.{Contents, matrices_alone}
use Rattle.spasm_words.specs.declared.command.Task.TheVariants as task
use Rattle.spasm_run.specs.Summary.{summary_text}
use Rattle.spasm_run.specs.Input.{Input, supply_behind}
use Rattle.spasm_run.specs.Ran.{AreTooFew, HasNoAnswer, IsAnswered}
use Rattle.spasm_run.specs.Shapes.{HasAnswerShape}
use Rattle.spasm_run.specs.Status.{is_unread}

-- the text of an answer
abbrev pub answer_text : CommandAnswer → List ℕ
answer_text (answer.Rank r) = rank_line r
answer_text (answer.Matrix A) = text_of A.matrix
answer_text (answer.Solution x) = codes "solution\n" ++ text_of x.matrix
answer_text (answer.Refutation y) = codes "no solution\n" ++ text_of y.matrix
answer_text (answer.Inverse B) = codes "inverse\n" ++ text_of B.matrix
answer_text (answer.Singular v) = codes "singular\n" ++ text_of v.matrix
answer_text (answer.Pivots pairs) = pivots_text pairs.items
answer_text (answer.Summary s) = summary_text s.rank s.entries s.sum
answer_text (answer.Certificate c) = certificate_text (certificate_of c)
answer_text (answer.Trace t) = trace.trace_text t.p t.publications
answer_text (answer.Verdict valid) = if valid then codes "yes\n" else codes "no\n"
answer_text (answer.Script answers) = answers_text answers.items

-- the status of a run that wrote this answer
abbrev pub status_behind : CommandAnswer → Status
status_behind (answer.Verdict valid) = if valid then status.Done else status.No
status_behind a = status.Done

-- the sizes of a matrix can be written
abbrev pub HasSmallSizes : Matrix → Type 0
HasSmallSizes A = (A.height < LARGEST_SIZE) × (A.width < LARGEST_SIZE)

abbrev pub IsSmall : CommandAnswer → Type 0
IsSmall (answer.Rank r) = Unit {0}
IsSmall (answer.Matrix A) = HasSmallSizes A.matrix
IsSmall (answer.Solution x) = HasSmallSizes x.matrix
IsSmall (answer.Refutation y) = HasSmallSizes y.matrix
IsSmall (answer.Inverse B) = HasSmallSizes B.matrix
IsSmall (answer.Singular v) = HasSmallSizes v.matrix
IsSmall (answer.Pivots pairs) = All IsSmallPlace pairs.items
IsSmall (answer.Summary s) = Unit {0}
IsSmall (answer.Certificate c) = HasText (certificate_of c)
IsSmall (answer.Trace t) = trace.HasTraceText t
IsSmall (answer.Verdict valid) = Unit {0}
IsSmall (answer.Script answers) = All AnswerFitsText answers.items

-- the command, asking for this task modulo p
abbrev pub asking : Task → ℕ → Command → Command
asking t p c = record c { task = t; modulus = p }

-- the answer to a command for what was read, with matrices of the shapes that are wanted
pub record IsAnswerTo (c : Command) (said : Contents) (a : CommandAnswer) : Type 0 where
  pub small : IsSmall a
  pub fits : misfit c.task said.matrices ≡ None
  pub shape : HasAnswerShape c.task c.modulus said.matrices (answer_text a)
  pub answers : RestsOn c.task c.modulus → AnswerOf c said (answer_text a)
  pub ends : EndsWith c.task c.modulus said (status_behind a)

-- what comes of a command for what was read: its answer; or its matrices are refused for their shapes; or memory was wanted
abbrev pub ComesOfContents : Command → Contents → Result CommandAnswer Status → Type 0
ComesOfContents c said (Ok a) = IsAnswerTo c said a
ComesOfContents c said (Err (status.Shape h w)) = misfit c.task said.matrices ≡ Some (status.Shape h w)
ComesOfContents c said (Err (status.Wide h w)) = misfit c.task said.matrices ≡ Some (status.Wide h w)
ComesOfContents c said (Err status.Memory) = Unit {0}
ComesOfContents c said (Err _) = ⊥

-- the same for matrices alone
abbrev pub ComesOf : Command → List Matrix → Result CommandAnswer Status → Type 0
ComesOf c values result = ComesOfContents c (matrices_alone values) result

-- whether the source failed
abbrev pub is_unread_in : Result CommandAnswer Status → Bool
is_unread_in (Ok a) = false
is_unread_in (Err s) = is_unread s

-- the answer that was found for these words in an input, or why there is none
abbrev pub IsFoundIn : List (List ℕ) → ℕ → Input → Result CommandAnswer Status → Type 0
IsFoundIn words limit input (Ok a) = IsAnswered words limit input (answer_text a) (status_behind a)
IsFoundIn words limit input (Err s) = HasNoAnswer words limit input s

-- The answer that was found for these words, or why there is none, in the input that was taken from a source, of which nothing was asked
-- before; the last pull of it was needed.
pub record WasFound (words : List (List ℕ)) (limit : ℕ) (result : Result CommandAnswer Status)
    (old new : SourceState) : Type 0 where
  pub input : Input
  pub draws : Draws (AreTooFew words limit) (is_unread_in result) input.bytes
      (untouched old) (supply_behind input new)
  pub found : IsFoundIn words limit input result

-- How a run ends that found this, and what its output gained: an answer's whole text, or a first part of it; nothing if there is no answer.
abbrev pub WasWritten : Result CommandAnswer Status → Status → SinkState → SinkState → Type 0
WasWritten (Ok a) s old new = ((s ≡ status_behind a) × Writes (Ok tt) (answer_text a) old new)
    ⊎ ((fault : WriteFault) × (s ≡ status.WriteFault) × Writes (Err fault) (answer_text a) old new)
WasWritten (Err e) s old new = (s ≡ e) × (new ≡ old)
