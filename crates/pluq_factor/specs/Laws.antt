-- The laws of rounds. Each is the contract of a public function that does nothing.
use Rattle.std.specs.Prelude.{◌≡◌, ℕ, suc, List, ◌++◌}
use Rattle.residue_words.specs.Residues.{IsPrime}
use Rattle.residue_words.specs.Matrix.{Matrix, IsMatrix}
use Rattle.residue_words.specs.declared.plain.Pair.{Pair}
use Rattle.row_space.specs.Echelon.{SameSpan}
use Rattle.row_space.specs.Factors.{AreFactors}
use Rattle.pivot_table.specs.Selected.{Selected}
use Rattle.triangular_solve.specs.Reduced.{IsComplement}
use Rattle.pluq_factor.specs.Staged.{Staged}

-- valid factors A = L U: A and U have one row space
abbrev pub FactorsKeepRows : Type 0
FactorsKeepRows = (p : ℕ) (A : Matrix) (pivots : List Pair) (L U : Matrix) → IsPrime p → IsMatrix p A →
    AreFactors p A pivots L U → SameSpan p A U

-- a list begins with the pivots of at most one round
abbrev pub SelectedIsOne : Type 0
SelectedIsOne = (A : Matrix) (workers : ℕ) (qs ps us rs : List Pair) → Selected A workers qs →
    Selected A workers us →
    qs ++ ps ≡ us ++ rs → qs ≡ us

-- what stands behind the first round's pivots is staged on the complement
abbrev pub StagedGoesOn : Type 0
StagedGoesOn = (p : ℕ) (A B : Matrix) (workers rounds : ℕ) (qs ps : List Pair) → IsPrime p → IsMatrix p A →
    Selected A workers qs → IsComplement p A qs B → Staged p A workers (suc rounds) (qs ++ ps) →
    Staged p B workers rounds ps
