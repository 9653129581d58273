-- What an answer is for every modulus, prime or not: its words, the ranges of its numbers, and the sizes of its matrices.
use Rattle.std.specs.Prelude.{◌≡◌, ◌≤◌, ◌⊎◌, ℕ, List, [], ◌∷◌, ◌++◌, All, codes}
use Rattle.residue_words.specs.Matrix.{Matrix, IsMatrix}
use Rattle.sms_text.specs.Written.{text_of}
use Rattle.certificates.specs.declared.certificate.Certificate.{Certificate}
use Rattle.certificates.specs.Certificate.{AreModulo, certificate_of, claim_kind, claim_of}
use Rattle.certificates.specs.CertificateText.{HasText, certificate_text}
use Rattle.grow_form.specs.declared.answering.Answer as grow
use Rattle.grow_form.specs.Scripts.{AnswerFitsText, answers_text, rank_line}
use Rattle.spasm_words.specs.declared.command.Task.{Task}
use Rattle.spasm_words.specs.declared.command.Task.TheVariants.{Rank, Rref, Kernel, Solve, LeftKernel, Inverse, Pivots, Check, Trace, Replay, Grow, Drill, Certify}
use Rattle.spasm_run.specs.Summary.{summary_of}

-- residues modulo p in n columns and at most n rows: echelon forms and kernel bases have no more
abbrev pub IsAtMostSquare : ℕ → ℕ → Matrix → Type 0
IsAtMostSquare p n E = IsMatrix p E × (E.width ≡ n) × (E.height ≤ n)

-- the text of such a matrix
abbrev pub IsTextOfColumns : ℕ → ℕ → List ℕ → Type 0
IsTextOfColumns p n text = (E : Matrix) × IsAtMostSquare p n E × (text ≡ text_of E)

-- a title, and the text of a matrix of residues modulo p of this height and width
abbrev pub IsTitledText : ℕ → List ℕ → ℕ → ℕ → List ℕ → Type 0
IsTitledText p title h w text =
    (X : Matrix) × IsMatrix p X × (X.height ≡ h) × (X.width ≡ w) × (text ≡ title ++ text_of X)

-- The text has the shape of an answer to this task modulo p for these matrices, whatever it tells of them. Nothing more is said of the
-- pivots, traces and verdicts, which are right for every modulus.
abbrev pub HasAnswerShape : Task → ℕ → List Matrix → List ℕ → Type 0
HasAnswerShape Rank p (A ∷ []) text = (r : ℕ) × (r ≤ A.height) × (r ≤ A.width) × (text ≡ rank_line r)
HasAnswerShape Rref p (A ∷ []) text = IsTextOfColumns p A.width text
HasAnswerShape Kernel p (A ∷ []) text = IsTextOfColumns p A.width text
HasAnswerShape LeftKernel p (A ∷ []) text = IsTextOfColumns p A.height text
HasAnswerShape Solve p (A ∷ B ∷ []) text =
    IsTitledText p (codes "solution\n") A.width 1 text
    ⊎ IsTitledText p (codes "no solution\n") 1 A.height text
HasAnswerShape Inverse p (A ∷ []) text =
    IsTitledText p (codes "inverse\n") A.width A.width text
    ⊎ IsTitledText p (codes "singular\n") 1 A.width text
HasAnswerShape (Drill g) p [] text =
    (E : Matrix) × IsAtMostSquare p g.cols E × (text ≡ summary_of p E)
HasAnswerShape (Certify kind) p (A ∷ []) text =
    (s : Certificate) × (claim_kind (claim_of s.claim) ≡ kind) × AreModulo p s × HasText (certificate_of s)
    × (text ≡ certificate_text (certificate_of s))
HasAnswerShape Grow p (A ∷ []) text =
    (answers : List grow.Answer) × All AnswerFitsText answers × (text ≡ answers_text answers)
HasAnswerShape Pivots p values text = Unit {0}
HasAnswerShape Trace p values text = Unit {0}
HasAnswerShape Check p values text = Unit {0}
HasAnswerShape Replay p values text = Unit {0}
HasAnswerShape task p values text = ⊥
