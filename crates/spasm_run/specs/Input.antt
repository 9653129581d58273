-- The input of a run, and the contents that it is read as.
use Rattle.std.specs.Prelude.{◌≡◌, ◌<◌, Bool, ℕ, List, [], ◌∷◌, Result, Ok, Err, Vec}
use Rattle.std.specs.declared.alloc.Global.{Global}
use Rattle.sms_text.specs.declared.kind.TextError.{TextError}
use Rattle.sms_text.specs.Lines.{Line}
use Rattle.sms_text.specs.Reading.{Draws, IsShort, Says, Supply, is_failed, untouched}
use Rattle.sms_text.specs.Stream.{SourceState}
use Rattle.sms_text.specs.Text.{Item, Reads, Request, reading}
use Rattle.sparse_rows.specs.Rows.{ResidueMatrix, LARGEST_SIZE}
use Rattle.certificates.specs.declared.certificate.Certificate.{Certificate}
use Rattle.run_trace.specs.declared.trace.Trace.{Trace}
use Rattle.grow_form.specs.declared.answering.Answer.{Answer}
use Rattle.spasm_run.specs.Contents.{AreAnswered, AreToCheck, AreToReplay, Contents, contents, matrices_alone}

-- what was taken from a source: these bytes, and whether the end was found behind them
pub record Input : Type 0 where
  pub bytes : List ℕ
  pub ended : Bool

-- the source behind an input
abbrev pub supply_behind : Input → SourceState → Supply
supply_behind input source = record { ended = input.ended; source = source }

-- the input is read as these contents
pub record HasContents (r : Request) (input : Input) (said : Contents) : Type 0 where
  pub items : List Item
  pub rest : List Line
  pub reads : Reads r input.bytes input.ended items rest
  pub are : contents r.modulus items ≡ said

-- the input is read as these contents, or says why it isn't
abbrev pub SaysContents : Request → Input → Result Contents TextError → Type 0
SaysContents r input (Ok said) = HasContents r input said
SaysContents r input (Err e) = Says (Err e) (reading r input.ended input.bytes)

-- What was asked for was read from a source, of which nothing was asked before: the input that was taken says so. It was not read for a
-- failure exactly where the source failed, and the last pull was needed.
pub record WasRead (r : Request) (result : Result Contents TextError)
    (old new : SourceState) : Type 0 where
  pub input : Input
  pub draws : Draws (IsShort r) (is_failed result) input.bytes (untouched old) (supply_behind input new)
  pub says : SaysContents r input result

-- the matrices that one text, and two texts, were read as
abbrev pub one_value : Result ResidueMatrix TextError → Result Contents TextError
one_value (Ok A) = Ok (matrices_alone (A.matrix ∷ []))
one_value (Err e) = Err e

abbrev pub two_values : Result (ResidueMatrix × ResidueMatrix) TextError → Result Contents TextError
two_values (Ok (A, B)) = Ok (matrices_alone (A.matrix ∷ B.matrix ∷ []))
two_values (Err e) = Err e

-- a matrix and a certificate behind it were read, or not
abbrev pub WereRead : Request → Result (ResidueMatrix × Certificate) TextError → SourceState → SourceState →
    Type 0
WereRead r (Ok (A, c)) old new = (said : Contents) × WasRead r (Ok said) old new × AreToCheck A c said
WereRead r (Err e) old new = WasRead r (Err e) old new

-- a matrix and a trace behind it were read, or not
abbrev pub WereReadToReplay : Request → Result (ResidueMatrix × Trace) TextError → SourceState → SourceState →
    Type 0
WereReadToReplay r (Ok (A, t)) old new = (said : Contents) × WasRead r (Ok said) old new
    × AreToReplay A t said
WereReadToReplay r (Err e) old new = WasRead r (Err e) old new

-- a matrix and a script behind it were read, and the script was answered, or not
abbrev pub WasAnswered : Request → Result (Vec Answer Global) TextError → SourceState → SourceState → Type 0
WasAnswered r (Ok answers) old new =
    (said : Contents) × WasRead r (Ok said) old new × AreAnswered r.modulus answers.items said
WasAnswered r (Err e) old new = WasRead r (Err e) old new

-- what holds of each matrix that was read
pub record IsOfText (p : ℕ) (A : ResidueMatrix) : Type 0 where
  pub modulus : A.modulus ≡ p
  pub height : A.matrix.height < LARGEST_SIZE
  pub width : A.matrix.width < LARGEST_SIZE
