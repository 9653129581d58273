-- Rows that end on a diagonal.
use Rattle.std.specs.Prelude.{◌≡◌, ◌<◌, ℕ, List, length, slice_index}
use Rattle.residue_words.specs.Matrix.{Matrix, entry}
use Rattle.sparse_rows.specs.Rows.{AreBelow}

-- the last nonzero entry of a row of r entries stands at k
pub record LastAt (r : ℕ) (e : ℕ → ℕ) (k : ℕ) : Type 0 where
  pub nonzero : 0 < e k
  pub after : (t : ℕ) → k < t → t < r → e t ≡ 0

-- of the rows of M that are named, the k-th has its last nonzero entry at k: they are lower triangular, and their diagonal is nowhere 0
abbrev pub AreLast : Matrix → List ℕ → Type 0
AreLast M named = (k : ℕ) → k < length named → LastAt M.width (entry M (slice_index named k)) k

-- these are rows of M, and they end so
abbrev pub EndAt : Matrix → List ℕ → Type 0
EndAt M named = AreBelow M.height named × AreLast M named
