-- What a certificate says of a matrix, once `check` has answered `yes`.
use Rattle.std.specs.Prelude.{◌≡◌, ℕ}
use Rattle.residue_words.specs.Residues.{IsPrime}
use Rattle.row_space.specs.Factors.{TellsOf}
use Rattle.spasm_run.specs.declared.status.Status.TheVariants.{Done}
use Rattle.spasm_words.specs.declared.command.Command.{Command}
use Rattle.spasm_words.specs.declared.command.Task.TheVariants.{Check}
use Rattle.spasm_run.specs.Contents.{Contents, IsCertified}
use Rattle.spasm_run.specs.Input.{HasContents, Input}
use Rattle.spasm_run.specs.Ran.{Ran, Run, request}
use Rattle.spasm_words.specs.Words.{Accepted}

-- the input is a matrix with a certificate behind it, and what this says of the matrix is so
pub record SaysTruth (c : Command) (limit : ℕ) (input : Input) : Type 0 where
  pub said : Contents
  pub reads : HasContents (request c limit) input said
  pub certified : IsCertified c.modulus said
  pub tells : TellsOf c.modulus certified.matrix certified.certificate

-- If `check` ends with Done, modulo a prime, the matrix that it read has the rank, the form and the kernel basis that the certificate
-- claims, whoever wrote it.
abbrev pub CheckedIsTrue : Type 0
CheckedIsTrue = (r : Run) (c : Command) → IsPrime c.modulus → Accepted r.words c → c.task ≡ Check →
    (ran : Ran r Done) → SaysTruth c r.limit ran.input
