-- The first entries of rows, or the last: ones that stand at rising columns.
use Rattle.std.specs.Prelude.{◌≡◌, ◌≢◌, ◌<◌, ℕ, List, length, slice_index}
use Rattle.residue_words.specs.Matrix.{Matrix, entry, row}
use Rattle.sparse_rows.specs.Rows.{support}
use Rattle.cert_checker.specs.declared.outer_ones.Side.{Side}
use Rattle.cert_checker.specs.declared.outer_ones.Side.TheVariants.{Left, Right}

-- column j lies outside column c, as seen from this side
abbrev pub IsOutside : Side → ℕ → ℕ → Type 0
IsOutside Left j c = j < c
IsOutside Right j c = c < j

-- q is the outermost of n places
pub record IsOutermost (side : Side) (n q : ℕ) : Type 0 where
  pub inside : q < n
  pub none : (s : ℕ) → s < n → ¬ IsOutside side s q

-- the outermost nonzero entry of the row of n entries is a 1 and stands at c
pub record IsOuterOne (side : Side) (n : ℕ) (e : ℕ → ℕ) (c : ℕ) : Type 0 where
  pub inside : c < n
  pub one : e c ≡ 1
  pub outside : (j : ℕ) → j < n → IsOutside side j c → e j ≡ 0

-- so it is in each row, and the columns rise
pub record AreOuterOnes (side : Side) (E : Matrix) (ones : List ℕ) : Type 0 where
  pub len : length ones ≡ E.height
  pub each : (k : ℕ) → k < E.height → IsOuterOne side E.width (entry E k) (slice_index ones k)
  pub rising : (k t : ℕ) → k < t → t < E.height → slice_index ones k < slice_index ones t

-- each of the rows that are named has one nonzero entry
abbrev pub AreSingle : Matrix → List ℕ → Type 0
AreSingle M named = (k : ℕ) → k < length named → length (support (row M (slice_index named k))) ≡ 1

-- each row is 0 at the columns of the others
abbrev pub AreAlone : Matrix → List ℕ → Type 0
AreAlone E ones = (t k : ℕ) → t < E.height → k < length ones → t ≢ k → entry E t (slice_index ones k) ≡ 0
