-- Rows that may have an alive column.
use Rattle.std.specs.Prelude.{ℕ, List}
use Rattle.residue_words.specs.Matrix.{Matrix}
use Rattle.residue_words.specs.declared.plain.Pair.{Pair}
use Rattle.pivot_table.specs.History.{HasCol, HasRow, Nonzero}

-- the row is in no pair, and has an entry in a column of none
abbrev pub HasCandidate : Matrix → List Pair → ℕ → Type 0
HasCandidate A h r = (¬ HasRow h r) × ((j : ℕ) × Nonzero A r j × (¬ HasCol h j))

-- all entries of the row stand in columns of pairs
abbrev pub IsCovered : Matrix → List Pair → ℕ → Type 0
IsCovered A h r = (j : ℕ) → Nonzero A r j → HasCol h j
