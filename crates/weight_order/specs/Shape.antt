-- Matrices whose rows or columns stand by how many entries they have.
use Rattle.std.specs.Prelude.{◌≡◌, ◌<◌, ◌≤◌, ◌/◌, ◌^◌, ℕ, List, length, map, slice_index}
use Rattle.residue_words.specs.Matrix.{Matrix, row}
use Rattle.sparse_rows.specs.Rows.{AreFilled, AreOccupied, AreWeights, IsFilled, ResidueMatrix, selected, support, transposed}
use Rattle.weight_order.specs.Keeping.{AreFilledInSomeOrder, KeepsRank}

-- no row that is named has fewer entries than one that is named before it
abbrev pub AreByWeight : Matrix → List ℕ → Type 0
AreByWeight A rows = (k t : ℕ) → k < t → t < length rows →
    length (support (row A (slice_index rows k))) ≤ length (support (row A (slice_index rows t)))

-- where these are the weights of a matrix, the numbers name its filled rows, by weight
abbrev pub IsRarestFirst : List (ℕ × ℕ) → List ℕ → Type 0
IsRarestFirst weights order = (A : Matrix) → AreWeights A weights → AreFilledInSomeOrder A order × AreByWeight A order

-- the same numbers in the same order, whose first words begin with the weights
pub record ArePlacedWeights (weights placed : List (ℕ × ℕ)) : Type 0 where
  pub numbers : map (λ w. w.1) placed ≡ map (λ w. w.1) weights
  pub begun : map (λ w. w.0 / 2 ^ 32) placed ≡ map (λ w. w.0) weights

-- the rows of C are the filled rows of A, by weight
pub record HasRowsByWeight (A C : Matrix) : Type 0 where
  pub order : List ℕ
  pub filled : AreFilledInSomeOrder A order
  pub by_weight : AreByWeight A order
  pub rows : C ≡ selected A order

-- each row of A has an entry, and none has fewer than one before it
pub record HasRisingRows (A : Matrix) : Type 0 where
  pub filled : (i : ℕ) → i < A.height → IsFilled A i
  pub rising : (i k : ℕ) → i < k → k < A.height →
      length (support (row A i)) ≤ length (support (row A k))

-- besides, the rows of C are no more than the columns that have an entry
pub record HasFewRisingRows (C : Matrix) : Type 0 where
  pub rising : HasRisingRows C
  pub few : (columns : List ℕ) → AreFilled (transposed C) columns → C.height ≤ length columns

-- at most n rows of A have an entry
abbrev pub HasFewFilled : Matrix → ℕ → Type 0
HasFewFilled A n = (rows : List ℕ) → AreFilled A rows → length rows ≤ n

-- the rows of C are columns by weight of a matrix that keeps the rank of R, and have entries in these columns alone
pub record HasColumnsByWeight (R C : ResidueMatrix) (columns : List ℕ) : Type 0 where
  pub rank : KeepsRank R C
  pub shape : HasFewRisingRows C.matrix
  pub occupied : AreOccupied C.matrix columns

-- each row and each column of S has an entry; the columns are no more than the rows, and the rarest come first
pub record HasRarestFirst (S : Matrix) : Type 0 where
  pub rows : (i : ℕ) → i < S.height → IsFilled S i
  pub columns : HasRisingRows (transposed S)
  pub tall : S.width ≤ S.height
