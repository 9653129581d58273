-- What the marks of a walk say.
use Rattle.std.specs.Prelude.{◌≡◌, ◌<◌, ◌≤◌, ℕ, List, [], length, slice_index, Option, None, Some}
use Rattle.std.specs.List.{Contains}
use Rattle.residue_words.specs.Matrix.{Matrix, row}
use Rattle.residue_words.specs.declared.plain.Pair.{Pair}
use Rattle.sparse_rows.specs.Rows.{support}
use Rattle.pivot_table.specs.History.{pair, Nonzero, HasRow, HasCol, Reaches, row_weight}
use Rattle.pivot_walks.specs.Indexed.{Indexed}

-- the marked columns are reached
abbrev pub AreReached : Matrix → List Pair → ℕ → List ℕ → Type 0
AreReached A h r marked = (j : ℕ) → Contains marked j → Reaches A h r j

-- the pivotal columns of the row's support are marked
abbrev pub PivotalAreMarked : Matrix → List Pair → ℕ → List ℕ → Type 0
PivotalAreMarked A h r marked = (c : ℕ) → HasCol h c → Nonzero A r c → Contains marked c

-- what the first n marked columns lead to in a step is marked
abbrev pub AreFollowed : Matrix → List Pair → ℕ → List ℕ → Type 0
AreFollowed A h n marked = (k s d : ℕ) → k < n →
    Contains h (pair s (slice_index marked k)) → Nonzero A s d → Contains marked d

-- what column c leads to is marked
abbrev pub IsFollowed : Indexed → ℕ → List ℕ → Type 0
IsFollowed w c marked = (s d : ℕ) →
    Contains w.pairs (pair s c) → Nonzero w.rows.matrix s d → Contains marked d

-- the first n columns of the row's support are marked
abbrev pub ArePassed : Matrix → ℕ → ℕ → List ℕ → Type 0
ArePassed A r n marked = (k : ℕ) → k < n → Contains marked (slice_index (support (row A r)) k)

-- a walk under way: the marked columns are reached, and among them are the pivotal ones of the row's support, and what the first
-- `taken` of them lead to
pub record IsUnderWay (A : Matrix) (h : List Pair) (r taken : ℕ) (marked : List ℕ) : Type 0 where
  pub reached : AreReached A h r marked
  pub begun : PivotalAreMarked A h r marked
  pub goes : AreFollowed A h taken marked
  pub listed : taken ≤ length marked

-- how far a walk has come: the marked columns, how many of them were taken up, and how many columns of the row's support were
-- passed over
pub record Progress : Type 0 where
  pub marked : List ℕ
  pub taken : ℕ
  pub passed : ℕ

abbrev pub progress : List ℕ → ℕ → ℕ → Progress
progress marked taken passed = record { marked = marked; taken = taken; passed = passed }

-- a walk on its way: the columns that were passed over are marked, and the next of the row's support isn't
pub record IsWalking (A : Matrix) (h : List Pair) (r : ℕ) (at : Progress) : Type 0 where
  pub reached : AreReached A h r at.marked
  pub begun : PivotalAreMarked A h r at.marked
  pub goes : AreFollowed A h at.taken at.marked
  pub listed : at.taken ≤ length at.marked
  pub passes : ArePassed A r at.passed at.marked
  pub within : at.passed ≤ row_weight A r
  pub next : at.passed < row_weight A r → ¬ Contains at.marked (slice_index (support (row A r)) at.passed)

-- the walk of the row has ended: all that it reaches is marked, or its whole support
pub record HasWalked (A : Matrix) (h : List Pair) (r : ℕ) (marked : List ℕ) (passed : ℕ) : Type 0 where
  pub inside : r < A.height
  pub fresh : ¬ HasRow h r
  pub reached : AreReached A h r marked
  pub passes : ArePassed A r passed marked
  pub within : passed ≤ row_weight A r
  pub next : passed < row_weight A r → ¬ Contains marked (slice_index (support (row A r)) passed)
  pub begun : passed < row_weight A r → PivotalAreMarked A h r marked
  pub goes : passed < row_weight A r → AreFollowed A h (length marked) marked

-- no row is walked from and nothing is marked, or the walk of the row has ended
abbrev pub IsWalk : Indexed → List ℕ → ℕ → Option ℕ → Type 0
IsWalk w marked passed None = marked ≡ []
IsWalk w marked passed (Some r) = HasWalked w.rows.matrix w.pairs r marked passed
