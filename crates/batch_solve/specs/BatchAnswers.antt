-- What a batch is answered: the matrix and the right-hand sides are refused for their shapes, or each right-hand side has its answer.
use Rattle.std.specs.Prelude.{◌≡◌, ◌+◌, ◌==◌, ◌&&◌, nat_lt, if◌then◌else◌, ℕ, List, [], ◌∷◌, ◌++◌, Option, None, Some}
use Rattle.residue_words.specs.Matrix.{Matrix}
use Rattle.sparse_rows.specs.Rows.{LARGEST_SIZE}
use Rattle.kernel_solve.specs.Column.{column}
use Rattle.spasm_run.specs.Answers.{SolvesTo}
use Rattle.batch_solve.specs.declared.batch_status.BatchStatus.{BatchStatus}
use Rattle.batch_solve.specs.declared.batch_status.BatchStatus.TheVariants.{Shape, Wide}

-- the first of these matrices that isn't a column of this height, where the first of them has this number
abbrev pub first_misshapen : ℕ → ℕ → List Matrix → Option BatchStatus
first_misshapen m number [] = None
first_misshapen m number (B ∷ Bs) =
    if (B.height == m) && (B.width == 1) then first_misshapen m (number + 1) Bs
    else Some (Shape number B.height B.width)

-- The status by which a matrix and the right-hand sides behind it are refused: the matrix is too wide, its height and width together
-- above the largest size, as the format has it; or a right-hand side isn't a column as high as the matrix, and the first of them is
-- named, counted from 1.
abbrev pub batch_misfit : List Matrix → Option BatchStatus
batch_misfit [] = None
batch_misfit (A ∷ Bs) =
    if nat_lt LARGEST_SIZE (A.height + A.width) then Some (Wide A.height A.width)
    else first_misshapen A.height 1 Bs

-- the text is the answers to A x = b, one behind another, for the column b that each of these matrices is
abbrev pub AnswersEach : ℕ → Matrix → List Matrix → List ℕ → Type 0
AnswersEach p A [] text = text ≡ []
AnswersEach p A (B ∷ Bs) text = (first : List ℕ) × (others : List ℕ) × SolvesTo p A (column B) first
    × AnswersEach p A Bs others × (text ≡ first ++ others)

-- the text is the answer to a batch: the first matrix is A, and the others are the right-hand sides
abbrev pub AnswersBatch : ℕ → List Matrix → List ℕ → Type 0
AnswersBatch p [] text = ⊥
AnswersBatch p (A ∷ Bs) text = AnswersEach p A Bs text
