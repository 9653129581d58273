-- What is read for a command: the matrices of the texts, and the lines of words outside of them.
use Rattle.std.specs.Prelude.{◌≡◌, ℕ, List, [], ◌∷◌, Some}
use Rattle.residue_words.specs.Matrix.{Matrix}
use Rattle.row_space.specs.Factors as plain
use Rattle.row_space.specs.Factors.{IsValid}
use Rattle.sparse_rows.specs.Rows.{ResidueMatrix}
use Rattle.sms_text.specs.Text.{Item, matrices, outer_lines}
use Rattle.certificates.specs.declared.certificate.Certificate.{Certificate}
use Rattle.certificates.specs.Certificate.{certificate_of}
use Rattle.certificates.specs.CertificateText.{certificate_said}
use Rattle.run_trace.specs.declared.trace.Trace.{Trace}
use Rattle.run_trace.specs.Lawful.{IsLawfulTrace}
use Rattle.run_trace.specs.TraceText.{trace_said}
use Rattle.residue_words.specs.Residues.{IsPrime}
use Rattle.grow_form.specs.declared.answering.Answer.{Answer}
use Rattle.grow_form.specs.Scripts.{AnswersLines, answers_text}

pub record Contents : Type 0 where
  pub matrices : List Matrix
  pub lines : List (List (List ℕ))

-- what these items say
abbrev pub contents : ℕ → List Item → Contents
contents p items = record { matrices = matrices p items; lines = outer_lines items }

-- matrices alone
abbrev pub matrices_alone : List Matrix → Contents
matrices_alone values = record { matrices = values; lines = [] }

-- the contents are a matrix, and a certificate behind it that is valid for it
pub record IsCertified (p : ℕ) (said : Contents) : Type 0 where
  pub matrix : Matrix
  pub behind : List Matrix
  pub certificate : plain.Certificate
  pub matrices : said.matrices ≡ matrix ∷ behind
  pub says : certificate_said said.lines behind ≡ Some certificate
  pub valid : IsValid p matrix certificate

-- the contents are this matrix, and this certificate behind it
pub record AreToCheck (A : ResidueMatrix) (c : Certificate) (said : Contents) : Type 0 where
  pub behind : List Matrix
  pub matrices : said.matrices ≡ A.matrix ∷ behind
  pub says : certificate_said said.lines behind ≡ Some (certificate_of c)

-- the contents are a matrix, and a trace behind it that is lawful for it
pub record HasLawfulTrace (p : ℕ) (said : Contents) : Type 0 where
  pub matrix : Matrix
  pub trace : Trace
  pub matrices : said.matrices ≡ matrix ∷ []
  pub says : trace_said said.lines ≡ Some trace
  pub lawful : IsLawfulTrace p matrix trace

-- the contents are this matrix, and this trace behind it
pub record AreToReplay (A : ResidueMatrix) (t : Trace) (said : Contents) : Type 0 where
  pub matrices : said.matrices ≡ A.matrix ∷ []
  pub says : trace_said said.lines ≡ Some t

-- the contents are a matrix and the lines of a script behind it, which has these answers where the modulus is prime
pub record AreAnswered (p : ℕ) (answers : List Answer) (said : Contents) : Type 0 where
  pub matrix : Matrix
  pub matrices : said.matrices ≡ matrix ∷ []
  pub answered : IsPrime p → AnswersLines p matrix said.lines (answers_text answers)
