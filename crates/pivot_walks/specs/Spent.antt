-- What taking up columns costs.
use Rattle.std.specs.Prelude.{◌+◌, ◌≤◌, ◌==◌, if◌then◌else◌, ◌++◌, ℕ, List, [], ◌∷◌}
use Rattle.residue_words.specs.Matrix.{Matrix}
use Rattle.residue_words.specs.declared.plain.Pair.{Pair}
use Rattle.pivot_table.specs.History.{row_weight}
use Rattle.pivot_walks.specs.Cost.{IsCost}
use Rattle.pivot_walks.specs.Indexed.{Indexed}

-- the size of the support of the pivot row at the column; 0 at a column that isn't pivotal
abbrev pub weight_at : Matrix → List Pair → ℕ → ℕ
weight_at A [] c = 0
weight_at A (q ∷ h) c = (if q.col == c then row_weight A q.row else 0) + weight_at A h c

-- of all these columns
abbrev pub spent : Matrix → List Pair → List ℕ → ℕ
spent A h [] = 0
spent A h (c ∷ cs) = weight_at A h c + spent A h cs

abbrev pub spent_for : Indexed → List ℕ → ℕ
spent_for w cols = spent w.rows.matrix w.pairs cols

-- the count of steps went from one number to another by at most what the new columns take more than the old ones
abbrev pub TakesForColumns : Indexed → List ℕ → List ℕ → ℕ → ℕ → Type 0
TakesForColumns w old new before after =
    after + spent_for w old ≤ before + spent_for w new

-- by at most as much as the row's cost rises as the pair comes
abbrev pub TakesForRow : Indexed → Pair → ℕ → ℕ → ℕ → Type 0
TakesForRow w q r before after = (m n : ℕ) →
    IsCost w.rows.matrix w.pairs r m → IsCost w.rows.matrix (w.pairs ++ q ∷ []) r n → after + m ≤ before + n
