-- Questions, replies to them, and workers that find them.
use Rattle.std.specs.Prelude.{◌≡◌, ℕ, ◌<◌, List, [], Option, Some, length, slice_get, All}
use Rattle.sparse_rows.specs.Rows.{ResidueMatrix}
use Rattle.kernel_solve.specs.Prepared.{IsReply, Preparation}
use Rattle.kernel_solve.specs.declared.prepared.Reply.{Reply}
use Rattle.question_desk.specs.Desk.{DeskState, IsTakerOf}
use Rattle.batch_solve.specs.declared.worker.Answered.{Answered}
use Rattle.batch_solve.specs.declared.worker.Worker.{Worker}

-- a column as high as the prepared matrix, over its modulus
pub record IsQuestion (q : Preparation) (b : ResidueMatrix) : Type 0 where
  pub modulus : b.modulus ≡ q.modulus
  pub height : b.matrix.height ≡ q.height
  pub column : b.matrix.width ≡ 1

-- a reply to question k
abbrev pub RepliesAt : Preparation → List ResidueMatrix → ℕ → Reply → Type 0
RepliesAt q questions k reply = (b : ResidueMatrix) → slice_get questions k ≡ Some b →
    IsReply q b.matrix reply

-- a reply to each question, in order
pub record AreReplies (q : Preparation) (questions : List ResidueMatrix) (replies : List Reply) : Type 0 where
  pub long : length replies ≡ length questions
  pub each : (k : ℕ) (reply : Reply) → slice_get replies k ≡ Some reply → RepliesAt q questions k reply

-- a slot for each question, which is empty or has a reply to it
pub record AreSlots (q : Preparation) (questions : List ResidueMatrix)
    (slots : List (Option Reply)) : Type 0 where
  pub long : length slots ≡ length questions
  pub each : (k : ℕ) (reply : Reply) → slice_get slots k ≡ Some (Some reply) → RepliesAt q questions k reply

-- a reply to the question of its number
pub record IsAnsweredAt (q : Preparation) (questions : List ResidueMatrix) (a : Answered) : Type 0 where
  pub inside : a.question < length questions
  pub reply : RepliesAt q questions a.question a.reply

-- a worker that takes at this desk, whose replies are such
pub record WorksAt (desk : DeskState) (q : Preparation) (questions : List ResidueMatrix)
    (w : Worker) : Type 0 where
  pub taker : IsTakerOf desk w.taker
  pub answered : All (IsAnsweredAt q questions) w.answered.items

-- a worker that takes at this desk and found nothing yet
pub record IsIdleAt (desk : DeskState) (w : Worker) : Type 0 where
  pub taker : IsTakerOf desk w.taker
  pub answered : w.answered.items ≡ []
