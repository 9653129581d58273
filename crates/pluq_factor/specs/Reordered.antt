-- Matrices whose columns stand in another order.
use Rattle.std.specs.Prelude.{◌≡◌, ◌<◌, ℕ, List, length, slice_index, IsPermutation}
use Rattle.std.specs.List.{range_with_len}
use Rattle.residue_words.specs.Matrix.{IsMatrix}
use Rattle.sparse_rows.specs.Rows.{ResidueMatrix, narrowed}
use Rattle.pluq_factor.specs.RoundPivots.{IsBasisRound}
use Rattle.pluq_factor.specs.declared.basis_round.Bounds.{Bounds}
use Rattle.pluq_factor.specs.declared.basis_round.Outcome.{Outcome}
use Rattle.pluq_factor.specs.declared.basis_round.Outcome.TheVariants.{Taken, GivenUp, Nothing}

-- at each of these numbers stands its place among them
pub record ArePlacesOf (order places : List ℕ) : Type 0 where
  pub long : length places ≡ length order
  pub at : (k : ℕ) → k < length order → slice_index places (slice_index order k) ≡ k

-- S has the columns of R in some order, and these are their places
pub record IsReordered (R S : ResidueMatrix) (places : List ℕ) : Type 0 where
  pub sound : IsMatrix R.modulus R.matrix
  pub modulus : S.modulus ≡ R.modulus
  pub order : List ℕ
  pub permuted : IsPermutation (range_with_len 0 R.matrix.width) order
  pub placed : ArePlacesOf order places
  pub matrix : S.matrix ≡ narrowed R.matrix order

-- a round of R that is taken within these bounds, or R in another order, or nothing
abbrev pub IsOutcome : ResidueMatrix → Bounds → Outcome → Type 0
IsOutcome R bounds (Taken round) = (0 < bounds.rounds) × IsBasisRound R round
IsOutcome R bounds (GivenUp other) = (0 < bounds.orders) × IsReordered R other.matrix.rows other.places.items
IsOutcome R bounds Nothing = Unit {0}
