-- Sums by column, of which few are not 0.
use Rattle.std.specs.Prelude.{◌≡◌, ◌≢◌, ◌<◌, ◌≤◌, ◌⊎◌, ◌+◌, ◌*◌, ◌/◌, ◌%◌, ℕ, List, leb, if◌then◌else◌, length, map, slice_index, slice_set}
use Rattle.residue_words.specs.Matrix.{zeros}
use Rattle.residue_words.specs.declared.modulus.TheConstants.{MODULUS_BOUND}
use Rattle.residue_words.specs.declared.shoup.TheConstants.{LANE_BOUND}
use Rattle.sparse_rows.specs.Rows.{ResidueRow}

-- what sums modulo p are kept below: for a p below 2^31 the greatest multiple of p up to 2^63, else p
abbrev pub limit_of : ℕ → ℕ
limit_of p = if leb LANE_BOUND p then p else 9223372036854775808 / p * p

-- the residues of the sums
abbrev pub residues_of : ℕ → List ℕ → List ℕ
residues_of p sums = map (λ s. s % p) sums

-- sums modulo p, each below the limit
pub record AreLimited (p limit : ℕ) (sums : List ℕ) : Type 0 where
  pub two_or_more : 2 ≤ p
  pub in_range : p < MODULUS_BOUND
  pub limit_is : limit ≡ limit_of p
  pub below : (j : ℕ) → j < length sums → slice_index sums j < limit

-- v is added at column j, and the limit taken away where the sum reaches it
pub record AddsBelow (limit j v : ℕ) (old new : List ℕ) : Type 0 where
  pub sum : ℕ
  pub below : sum < limit
  pub same : (sum ≡ slice_index old j + v) ⊎ (sum + limit ≡ slice_index old j + v)
  pub after : new ≡ slice_set old j sum

-- each column with a sum that is not 0 is marked
pub record AreTouched (sums marks : List ℕ) : Type 0 where
  pub long : length marks ≡ length sums
  pub covers : (j : ℕ) → j < length sums → slice_index sums j ≢ 0 → slice_index marks j ≢ 0

-- sums below the limit, with the columns touched
pub record IsAccumulator (p limit : ℕ) (sums marks : List ℕ) : Type 0 where
  pub limited : AreLimited p limit sums
  pub touched : AreTouched sums marks

-- the zero row of n entries
abbrev pub IsClear : ℕ → ℕ → ResidueRow → Type 0
IsClear p n a = a ≡ record { modulus = p; row = zeros n }

-- the modulus and the length are the same
abbrev pub IsAlike : ResidueRow → ResidueRow → Type 0
IsAlike old new = (new.modulus ≡ old.modulus) × (length new.row ≡ length old.row)
