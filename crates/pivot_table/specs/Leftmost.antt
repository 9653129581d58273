-- The leftmost pairs: for each column at which a row begins, the sparsest of these rows (the selection of Faugère
-- and Lachartre, PASCO 2010).
use Rattle.std.specs.Prelude.{◌≡◌, ◌<◌, ◌≤◌, ℕ, List, length}
use Rattle.std.specs.List.{Contains}
use Rattle.residue_words.specs.Matrix.{Matrix, entry}
use Rattle.residue_words.specs.declared.plain.Pair.{Pair}
use Rattle.row_space.specs.Factors.{col_at}
use Rattle.pivot_table.specs.History.{HasCol, Nonzero, row_weight}

-- the row's first nonzero entry stands at the column
abbrev pub BeginsAt : Matrix → ℕ → ℕ → Type 0
BeginsAt A r c = Nonzero A r c × ((j : ℕ) → j < c → entry A r j ≡ 0)

-- of the rows that begin at the column it is one of the fewest nonzero entries, and of these the lowest
pub record IsSparsest (A : Matrix) (r c : ℕ) : Type 0 where
  pub begins : BeginsAt A r c
  pub fewest : (s : ℕ) → BeginsAt A s c → row_weight A r ≤ row_weight A s
  pub lowest : (s : ℕ) → BeginsAt A s c → row_weight A s ≤ row_weight A r → r ≤ s

-- the list has, by ascending columns, the sparsest row for each column at which a row begins
pub record IsLeftmost (A : Matrix) (qs : List Pair) : Type 0 where
  pub ascending : (k t : ℕ) → k < t → t < length qs → col_at qs k < col_at qs t
  pub sparsest : (q : Pair) → Contains qs q → IsSparsest A q.row q.col
  pub every : (r c : ℕ) → BeginsAt A r c → HasCol qs c
