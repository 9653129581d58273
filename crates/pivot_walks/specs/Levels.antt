-- Levels: a number at each column that rises along each step.
use Rattle.std.specs.Prelude.{◌≡◌, ◌≢◌, ◌<◌, ◌≤◌, ◌⊎◌, ℕ, List, [], length, slice_index}
use Rattle.std.specs.List.{Contains}
use Rattle.residue_words.specs.Matrix.{Matrix, row}
use Rattle.residue_words.specs.declared.plain.Pair.{Pair}
use Rattle.sparse_rows.specs.Rows.{ResidueMatrix, support}
use Rattle.pivot_table.specs.History.{pair, Nonzero, HasCol, Step, row_weight}
use Rattle.pivot_walks.specs.Indexed.{Indexed, support_of}
use Rattle.pivot_walks.specs.MarkedColumns.{HasWidthOf, Marked}
use Rattle.pivot_walks.specs.Reached.{AreReached, Progress}

-- the number rises along each step
abbrev pub IsLevel : Matrix → List Pair → (ℕ → ℕ) → Type 0
IsLevel A h f = (c d : ℕ) → Step A h c d → f c < f d

-- the least numbers that do
pub record AreLevels (A : Matrix) (h : List Pair) (levels : List ℕ) : Type 0 where
  pub long : length levels ≡ A.width
  pub rises : IsLevel A h (slice_index levels)
  pub least : (f : ℕ → ℕ) → IsLevel A h f → (c : ℕ) → slice_index levels c ≤ f c

-- the column's level is at most the bound
abbrev pub IsLow : List ℕ → ℕ → ℕ → Type 0
IsLow levels bound c = slice_index levels c ≤ bound

-- of the first n columns, those that are in no pair are low
abbrev pub FreeAreLow : List Pair → (ℕ → Type 0) → List ℕ → ℕ → Type 0
FreeAreLow h Low cols n = (k : ℕ) → k < n → (¬ HasCol h (slice_index cols k)) → Low (slice_index cols k)

-- the low pivotal columns of the row's support are marked
abbrev pub LowPivotalAreMarked : Indexed → ℕ → (ℕ → Type 0) → List ℕ → Type 0
LowPivotalAreMarked w r Low marked = (c : ℕ) →
    HasCol w.pairs c → Nonzero w.rows.matrix r c → Low c → Contains marked c

-- what column c leads to is marked, as far as it is low
abbrev pub LowAreTaken : Indexed → ℕ → (ℕ → Type 0) → List ℕ → Type 0
LowAreTaken w c Low marked = (s d : ℕ) →
    Contains w.pairs (pair s c) → Nonzero w.rows.matrix s d → Low d → Contains marked d

-- the column is marked or pivotal, so it isn't alive
abbrev pub IsOut : List Pair → List ℕ → ℕ → Type 0
IsOut h marked c = Contains marked c ⊎ HasCol h c

-- how far a walk goes: up to the columns of a level of at most `bound`, and while a column of the row's support before place
-- `end` may be alive
pub record Limits : Type 0 where
  pub levels : List ℕ
  pub bound : ℕ
  pub end : ℕ

abbrev pub limits : List ℕ → ℕ → ℕ → Limits
limits levels bound end = record { levels = levels; bound = bound; end = end }

-- the levels rise along each step, and up to the bound stand all columns of the row's support before the end that are in no pair
pub record AreLimitsOf (w : Indexed) (r : ℕ) (to : Limits) : Type 0 where
  pub long : length to.levels ≡ w.rows.matrix.width
  pub rises : IsLevel w.rows.matrix w.pairs (slice_index to.levels)
  pub within : to.end ≤ row_weight w.rows.matrix r
  pub low : FreeAreLow w.pairs (IsLow to.levels to.bound) (support_of w r) to.end

-- such a walk begins: the marked columns are reached, and among them are the low pivotal ones of the row's support
pub record BeginsLow (w : Indexed) (r : ℕ) (Low : ℕ → Type 0) (marked : List ℕ) : Type 0 where
  pub reached : AreReached w.rows.matrix w.pairs r marked
  pub begun : LowPivotalAreMarked w r Low marked

-- such a walk on its way: the columns that were passed over are out, and the next isn't, if it stands before the end
pub record IsBoundedWalk (A : Matrix) (h : List Pair) (r : ℕ) (to : Limits) (at : Progress) : Type 0 where
  pub reached : AreReached A h r at.marked
  pub begun : (c : ℕ) → HasCol h c → Nonzero A r c → IsLow to.levels to.bound c → Contains at.marked c
  pub goes : (k s d : ℕ) → k < at.taken →
      Contains h (pair s (slice_index at.marked k)) → Nonzero A s d →
      IsLow to.levels to.bound d → Contains at.marked d
  pub listed : at.taken ≤ length at.marked
  pub passes : (k : ℕ) → k < at.passed → IsOut h at.marked (slice_index (support (row A r)) k)
  pub within : at.passed ≤ to.end
  pub next : at.passed < to.end →
      (¬ Contains at.marked (slice_index (support (row A r)) at.passed))
      × (¬ HasCol h (slice_index (support (row A r)) at.passed))

-- the levels rise along each step but those from marked columns
pub record AreRaised (A : Matrix) (h : List Pair) (levels marked : List ℕ) : Type 0 where
  pub long : length levels ≡ A.width
  pub rises : (c d : ℕ) → Step A h c d → Contains marked c ⊎ (slice_index levels c < slice_index levels d)
  pub least : (f : ℕ → ℕ) → IsLevel A h f → (c : ℕ) → slice_index levels c ≤ f c

-- levels with the marked columns, and of column c the steps that were looked at: those to the first `seen` of these columns
pub record Raised : Type 0 where
  pub levels : List ℕ
  pub marked : List ℕ
  pub cols : List ℕ
  pub seen : ℕ

abbrev pub raised : List ℕ → List ℕ → List ℕ → ℕ → Raised
raised levels marked cols seen = record { levels = levels; marked = marked; cols = cols; seen = seen }

-- the levels rise along each step but those from marked columns and those from column c, of which the steps looked at do rise
pub record ArePartlyRaised (A : Matrix) (h : List Pair) (c : ℕ) (s : Raised) : Type 0 where
  pub long : length s.levels ≡ A.width
  pub others : (e d : ℕ) → Step A h e d → e ≢ c →
      Contains s.marked e ⊎ (slice_index s.levels e < slice_index s.levels d)
  pub own : (t : ℕ) → t < s.seen → slice_index s.cols t ≢ c →
      slice_index s.levels c < slice_index s.levels (slice_index s.cols t)
  pub least : (f : ℕ → ℕ) → IsLevel A h f → (e : ℕ) → slice_index s.levels e ≤ f e

-- the same before a step from column c was looked at
abbrev pub AreRaisedBut : Indexed → ℕ → List ℕ → List ℕ → Type 0
AreRaisedBut w c levels marked = ArePartlyRaised w.rows.matrix w.pairs c (raised levels marked [] 0)

-- what callers see of a walk by levels: a matrix, pairs of it, and how many more steps may be taken
pub record Leveled : Type 0 where
  pub rows : ResidueMatrix
  pub pairs : List Pair
  pub left : ℕ

-- between two calls, as long as steps are left, nothing is marked and the levels are right
abbrev pub IsAtRest : Indexed → Marked → List ℕ → ℕ → Type 0
IsAtRest w marks levels left = HasWidthOf w marks
    × (0 < left → (marks.list ≡ []) × AreLevels w.rows.matrix w.pairs levels)
