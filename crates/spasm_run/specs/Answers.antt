-- What each command reads, and what it answers.
use Rattle.std.specs.Prelude.{◌≡◌, ◌≢◌, ◌<◌, ◌≤◌, ◌⊎◌, ◌==◌, ◌&&◌, nat_lt, not, if◌then◌else◌, ℕ, List, [], ◌∷◌, ◌++◌, Option, None, Some, codes, length}
use Rattle.std.specs.Fmt.{decimal}
use Rattle.residue_words.specs.Matrix.{Matrix, row}
use Rattle.residue_words.specs.Residues.{IsPrime}
use Rattle.residue_words.specs.declared.plain.Pair.{Pair}
use Rattle.pivot_table.specs.Selected.{Selected}
use Rattle.row_space.specs.Echelon.{HasRank, IsRref}
use Rattle.row_space.specs.Factors as plain
use Rattle.row_space.specs.Factors.{IsValid}
use Rattle.row_space.specs.Inverse.{IsInverse}
use Rattle.row_space.specs.Kernel.{IsKernel}
use Rattle.row_space.specs.Solution.{IsReducedSolution, IsRefutingCombination, IsSolution}
use Rattle.kernel_solve.specs.Column.{column, column_matrix}
use Rattle.sms_text.specs.OuterLines as form
use Rattle.sms_text.specs.Text.{Due, Header, Outer, Scripted}
use Rattle.sms_text.specs.Written.{pair_lines, text_of}
use Rattle.sparse_rows.specs.Rows.{transposed}
use Rattle.pluq_factor.specs.Staged.{Staged}
use Rattle.certificates.specs.declared.cert_kind.CertKind.{CertKind}
use Rattle.certificates.specs.Certificate.{claim_kind}
use Rattle.certificates.specs.CertificateText.{certificate_text}
use Rattle.grow_form.specs.Scripts.{AnswersLines, rank_line}
use Rattle.spasm_run.specs.declared.commands.TheConstants.{LARGEST_INVERTED}
use Rattle.spasm_run.specs.declared.status.Status.{Status}
use Rattle.spasm_run.specs.declared.status.Status.TheVariants.{Done, No, Shape, Wide}
use Rattle.spasm_words.specs.declared.command.Command.{Command}
use Rattle.spasm_words.specs.declared.command.Task.{Task}
use Rattle.spasm_words.specs.declared.command.Task.TheVariants.{Rank, Rref, Kernel, Solve, LeftKernel, Inverse, Pivots, Check, Trace, Replay, Grow, Drill, Certify}
use Rattle.run_trace.specs.declared.trace.Trace as run
use Rattle.run_trace.specs.Lawful.{IsTraceOf}
use Rattle.run_trace.specs.TraceText.{trace_text}
use Rattle.spasm_run.specs.Contents.{Contents, HasLawfulTrace, IsCertified}
use Rattle.spasm_words.specs.Generator.{generated}
use Rattle.spasm_run.specs.Summary.{summary_of}

-- the lines that are due at first: the headers of the matrices that are read, and the first line of a certificate or of a trace; the header
-- of a matrix behind which a script comes
abbrev pub wanted : Task → List Due
wanted Solve = Header ∷ Header ∷ []
wanted Check = Header ∷ Outer form.Certificate ∷ []
wanted Replay = Header ∷ Outer form.Trace ∷ []
wanted Grow = Scripted ∷ []
wanted (Drill g) = []
wanted task = Header ∷ []

-- the status by which matrices of a wrong shape are refused: a right-hand side has to be a column as long as the matrix is high, and what is
-- inverted square, of at most LARGEST_INVERTED rows
abbrev pub misfit : Task → List Matrix → Option Status
misfit Solve (A ∷ B ∷ []) =
    if (B.height == A.height) && (B.width == 1) then None else Some (Shape B.height B.width)
misfit Inverse (A ∷ []) =
    if not (A.height == A.width) then Some (Shape A.height A.width) else
    if nat_lt LARGEST_INVERTED A.height then Some (Wide A.height A.width) else None
misfit task values = None

-- the matrix of one row with these entries
abbrev pub as_row : List ℕ → Matrix
as_row y = record { height = 1; width = length y; rows = y ∷ [] }

-- the reduced solution of A x = b; or, where there is no solution, the refuting combination
abbrev pub SolvesTo : ℕ → Matrix → List ℕ → List ℕ → Type 0
SolvesTo p A b text =
    ((x : List ℕ) × IsReducedSolution p A b x × (text ≡ codes "solution\n" ++ text_of (column_matrix x)))
    ⊎ ((y : List ℕ) × ((x : List ℕ) → ¬ IsSolution p A b x) × IsRefutingCombination p A b y
    × (text ≡ codes "no solution\n" ++ text_of (as_row y)))

-- the inverse of A; or, where there is none, the first row of its kernel basis
abbrev pub InvertsTo : ℕ → Matrix → List ℕ → Type 0
InvertsTo p A text =
    ((B : Matrix) × IsInverse p A B × (text ≡ codes "inverse\n" ++ text_of B))
    ⊎ ((K : Matrix) × ((B : Matrix) → ¬ IsInverse p A B) × IsKernel p A K × (0 < K.height)
    × (text ≡ codes "singular\n" ++ text_of (as_row (row K 0))))

abbrev pub pivots_text : List Pair → List ℕ
pivots_text qs = codes "pivots " ++ decimal (length qs) ++ 10 ∷ pair_lines qs

-- the text of a certificate of this kind that is valid, the pivots of which were chosen in so many rounds by so many workers
abbrev pub CertifiesAs : CertKind → Command → Matrix → List ℕ → Type 0
CertifiesAs kind c A text = (s : plain.Certificate) × (claim_kind s.claim ≡ kind)
    × IsValid c.modulus A s
    × Staged c.modulus A c.workers c.rounds s.pivots × (text ≡ certificate_text s)

-- the text of a trace of a search by so many workers
abbrev pub TracesTo : Command → Matrix → List ℕ → Type 0
TracesTo c A text = (t : run.Trace) × IsTraceOf c.modulus A c.workers t
    × (text ≡ trace_text t.p t.publications)

-- the text is the answer to the task of this command, which reads matrices alone, for these matrices
abbrev pub MatricesAnswer : Task → Command → List Matrix → List ℕ → Type 0
MatricesAnswer Rank c (A ∷ []) text = (r : ℕ) × HasRank c.modulus A r × (text ≡ rank_line r)
MatricesAnswer Rref c (A ∷ []) text = (E : Matrix) × IsRref c.modulus A E × (text ≡ text_of E)
MatricesAnswer Kernel c (A ∷ []) text = (K : Matrix) × IsKernel c.modulus A K × (text ≡ text_of K)
MatricesAnswer Solve c (A ∷ B ∷ []) text = SolvesTo c.modulus A (column B) text
MatricesAnswer LeftKernel c (A ∷ []) text = (K : Matrix) × IsKernel c.modulus (transposed A) K
    × (text ≡ text_of K)
MatricesAnswer Inverse c (A ∷ []) text = InvertsTo c.modulus A text
MatricesAnswer Pivots c (A ∷ []) text = (qs : List Pair) × Selected A c.workers qs × (text ≡ pivots_text qs)
MatricesAnswer Trace c (A ∷ []) text = TracesTo c A text
MatricesAnswer (Drill g) c [] text =
    (E : Matrix) × IsRref c.modulus (generated c.modulus g) E × (text ≡ summary_of c.modulus E)
MatricesAnswer (Certify kind) c (A ∷ []) text = CertifiesAs kind c A text
MatricesAnswer task c values text = ⊥

-- whether a claim holds
abbrev pub VerdictOn : Type 0 → List ℕ → Type 0
VerdictOn Claim text = (Claim × (text ≡ codes "yes\n")) ⊎ (¬ Claim × (text ≡ codes "no\n"))

-- the answers to the lines of a script behind a matrix
abbrev pub AnswersScript : ℕ → List Matrix → List (List (List ℕ)) → List ℕ → Type 0
AnswersScript p (A ∷ []) lines text = AnswersLines p A lines text
AnswersScript p values lines text = ⊥

-- the text is the answer to the task of this command for what was read
abbrev pub AnswerTo : Task → Command → Contents → List ℕ → Type 0
AnswerTo Check c said text = VerdictOn (IsCertified c.modulus said) text
AnswerTo Replay c said text = VerdictOn (HasLawfulTrace c.modulus said) text
AnswerTo Grow c said text = AnswersScript c.modulus said.matrices said.lines text
AnswerTo task c said text = MatricesAnswer task c said.matrices text

-- the text is the answer to the command for what was read
abbrev pub AnswerOf : Command → Contents → List ℕ → Type 0
AnswerOf c said text = AnswerTo c.task c said text

-- what an answer rests on: that the modulus is prime; pivots, traces, and whether a certificate is valid or a trace lawful, are told for
-- every modulus
abbrev pub RestsOn : Task → ℕ → Type 0
RestsOn Pivots p = Unit {0}
RestsOn Check p = Unit {0}
RestsOn Trace p = Unit {0}
RestsOn Replay p = Unit {0}
RestsOn task p = IsPrime p

-- a verdict ends with Done where the claim holds, and else with No
abbrev pub EndsBy : Type 0 → Status → Type 0
EndsBy Claim s = (Claim × (s ≡ Done)) ⊎ (¬ Claim × (s ≡ No))

-- the status of a run that wrote its answer: No for a certificate that isn't valid and for a trace that isn't lawful, and else Done
abbrev pub EndsWith : Task → ℕ → Contents → Status → Type 0
EndsWith Check p said s = EndsBy (IsCertified p said) s
EndsWith Replay p said s = EndsBy (HasLawfulTrace p said) s
EndsWith task p said s = s ≡ Done

-- if the command searches and writes what is found in its order, one worker does it
abbrev pub SearchesAlone : Command → Type 0
SearchesAlone c = (c.task ≡ Pivots) ⊎ (c.task ≡ Trace) → c.workers ≡ 1

-- the answer to a command for what was read is one text: the pivots and the trace where one worker searches, and a certificate, of which
-- a matrix has many, apart
abbrev pub IsOneAnswer : Type 0
IsOneAnswer = (c : Command) (said : Contents) (text other : List ℕ) → 2 ≤ c.modulus →
    SearchesAlone c → ((kind : CertKind) → c.task ≢ Certify kind) →
    AnswerOf c said text → AnswerOf c said other → text ≡ other
