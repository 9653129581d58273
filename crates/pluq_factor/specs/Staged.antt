-- Pivots that were chosen round by round (Bouillaguet, Delaplace and Voge, PASCO 2017).
use Rattle.std.specs.Prelude.{◌≡◌, ℕ, zero, suc, List, ◌++◌}
use Rattle.residue_words.specs.Matrix.{Matrix}
use Rattle.residue_words.specs.declared.plain.Pair.{Pair}
use Rattle.sparse_rows.specs.Rows.{ResidueMatrix}
use Rattle.pivot_table.specs.Selected.{Selected}
use Rattle.triangular_solve.specs.Reduced.{IsComplement}

-- the list has the pivots that so many workers selected in so many rounds, each on the complement of the one before, and
-- behind them any others
unfoldable pub Staged : ℕ → Matrix → ℕ → ℕ → List Pair → Type 0
Staged p A workers zero ps = Unit {0}
Staged p A workers (suc rounds) ps = (qs : List Pair) × (rest : List Pair) × (B : Matrix)
    × (ps ≡ qs ++ rest) × Selected A workers qs × IsComplement p A qs B × Staged p B workers rounds rest

-- of so many rounds none takes a pivot: any pivots are theirs, with others behind them
abbrev pub AreAnyStaged : ResidueMatrix → ℕ → ℕ → Type 0
AreAnyStaged R workers rounds = (ps : List Pair) → Staged R.modulus R.matrix workers rounds ps
