-- Rows split into multiples of pivots' rows and what is left off the pivots' columns.
use Rattle.std.specs.Prelude.{◌≡◌, ◌<◌, ◌+◌, ◌*◌, ◌%◌, ℕ, List, slice_index}
use Rattle.residue_words.specs.Residues.{sum_below}
use Rattle.dense_rows.specs.Dense.{IsTaken}

-- pivots of a block of n columns modulo p: the column of the k-th, and the entries of its row
pub record PivotSequence (p n : ℕ) : Type 0 where
  pub column : ℕ → ℕ
  pub entry : ℕ → ℕ → ℕ

-- at column j, the sum of the first r pivots' rows with the coefficients that v holds at their columns
abbrev pub parts : ℕ → (ℕ → ℕ → ℕ) → (ℕ → ℕ) → List ℕ → ℕ → ℕ
parts r e column v j = sum_below r (λ k. slice_index v (column k) * e k j)

-- b is this sum for the first r pivots, and at the other columns what v holds there
pub record IsSplit {p n : ℕ} (P : PivotSequence p n) (r : ℕ) (b v : List ℕ) : Type 0 where
  pub taken : (j : ℕ) → j < n → IsTaken r P.column j → slice_index b j % p ≡ parts r P.entry P.column v j % p
  pub left : (j : ℕ) → j < n → (IsTaken r P.column j → ⊥) →
      slice_index b j % p ≡ (parts r P.entry P.column v j + slice_index v j) % p
