-- How the triangular order is found: how many of the pairs that are left have an entry in each pivotal column, and
-- which columns have just one.
use Rattle.std.specs.Prelude.{◌≡◌, ◌≢◌, ◌<◌, ◌≤◌, ◌+◌, ◌⊎◌, ◌==◌, if◌then◌else◌, ℕ, List, [], ◌∷◌, length, map, slice_index}
use Rattle.std.specs.List.{Contains}
use Rattle.residue_words.specs.Matrix.{Matrix, entry}
use Rattle.residue_words.specs.declared.plain.Pair.{Pair}
use Rattle.row_space.specs.Factors.{col_at}
use Rattle.sparse_rows.specs.Rows.{AreRising}
use Rattle.pivot_table.specs.History.{Nonzero}
use Rattle.pivot_table.specs.Order.{IsReady}

-- 1 where the row has a nonzero entry in the column, else 0; and how many of the pairs' rows have one
abbrev pub entry_flag : Matrix → ℕ → ℕ → ℕ
entry_flag A r d = if entry A r d == 0 then 0 else 1

abbrev pub column_count : Matrix → List Pair → ℕ → ℕ
column_count A [] d = 0
column_count A (p ∷ ps) d = entry_flag A p.row d + column_count A ps d

-- some pair is ready among those that are left
abbrev pub SomeIsReady : Matrix → List Pair → Type 0
SomeIsReady A left = (q : Pair) × Contains left q × IsReady A left q

-- pairs at nonzero entries, by ascending columns, among any of which some pair is ready
pub record AreSortedPivots (A : Matrix) (pairs : List Pair) : Type 0 where
  pub nonzero : (p : Pair) → Contains pairs p → Nonzero A p.row p.col
  pub rising : AreRising (map (λ p. p.col) pairs)
  pub ready : (left : List Pair) (w : Pair) → ((p : Pair) → Contains left p → Contains pairs p) →
      Contains left w →
      SomeIsReady A left

-- for each pair, how many of the pairs have an entry in its column
pub record AreWaits (A : Matrix) (pairs : List Pair) (waits : List ℕ) : Type 0 where
  pub many : length waits ≡ length pairs
  pub counts : (k : ℕ) → k < length pairs → slice_index waits k ≡ column_count A pairs (col_at pairs k)

-- P of the place of each pivotal column that a list has, and of each other place
abbrev pub EachPlaceOf : (columns cols : List ℕ) → (ℕ → Type 0) → Type 0
EachPlaceOf columns cols P = (k : ℕ) → k < length columns → Contains cols (slice_index columns k) → P k

abbrev pub EachOtherPlace : (columns cols : List ℕ) → (ℕ → Type 0) → Type 0
EachOtherPlace columns cols P = (k : ℕ) → k < length columns → ¬ Contains cols (slice_index columns k) → P k

-- the place is marked in the queue
abbrev pub Queued : List ℕ → ℕ → Type 0
Queued queue k = slice_index queue k ≢ 0

-- the queue is as long, and each place is marked at which one pair waits
pub record HasReady (waits queue : List ℕ) : Type 0 where
  pub room : length queue ≡ length waits
  pub covers : (k : ℕ) → k < length waits → slice_index waits k ≡ 1 → Queued queue k

-- of the places in the queue at which one pair waits the least, k, was taken
pub record TakesReady (waits old new : List ℕ) (k : ℕ) : Type 0 where
  pub room : length new ≡ length old
  pub here : Queued old k
  pub ready : slice_index waits k ≡ 1
  pub least : (d : ℕ) → Queued old d → slice_index waits d ≡ 1 → k ≤ d
  pub kept : (d : ℕ) → Queued new d → Queued old d
  pub others : (d : ℕ) → Queued old d → slice_index waits d ≡ 1 → (d ≡ k) ⊎ Queued new d
