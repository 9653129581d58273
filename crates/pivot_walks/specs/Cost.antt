-- What a walk may cost: the entries of the row and of the pivot rows that it reaches.
use Rattle.std.specs.Prelude.{◌≡◌, ◌≤◌, ◌+◌, ℕ, List, [], ◌∷◌, ◌++◌, Some}
use Rattle.residue_words.specs.Matrix.{Matrix}
use Rattle.residue_words.specs.declared.plain.Pair.{Pair}
use Rattle.pivot_table.specs.History.{row_weight, Reaches}
use Rattle.pivot_table.specs.Order.{IsParted}
use Rattle.pivot_walks.specs.Walked.{Walked}

-- how many entries the rows of the pairs have
abbrev pub total_weight : Matrix → List Pair → ℕ
total_weight A [] = 0
total_weight A (q ∷ qs) = row_weight A q.row + total_weight A qs

-- n is the size of the row's support and those of the rows of the pairs that it reaches
pub record IsCost (A : Matrix) (h : List Pair) (r n : ℕ) : Type 0 where
  pub others : List Pair
  pub reached : List Pair
  pub parted : IsParted (λ (q : Pair). Reaches A h r q.col) h others reached
  pub is : n ≡ row_weight A r + total_weight A reached

-- the count of steps went from one number to another by at most the row's cost
abbrev pub TakesItsCost : Matrix → List Pair → ℕ → ℕ → ℕ → Type 0
TakesItsCost A h r before after = (n : ℕ) → IsCost A h r n → after ≤ before + n

-- from one walk to another, the count went by at most as much as the cost of the row that is still open rose
abbrev pub TakesTheRise : Walked → Walked → ℕ → ℕ → Type 0
TakesTheRise old new before after = (r m n : ℕ) → new.current ≡ Some r →
    IsCost old.rows.matrix old.pairs r m → IsCost old.rows.matrix new.pairs r n → after + m ≤ before + n

-- each row has one cost in each list
abbrev pub CostIsOne : Type 0
CostIsOne = (A : Matrix) (h : List Pair) (r : ℕ) →
    (n : ℕ) × IsCost A h r n × ((m : ℕ) → IsCost A h r m → m ≡ n)

-- and it doesn't fall as the list grows
abbrev pub CostRises : Type 0
CostRises = (A : Matrix) (h more : List Pair) (r m n : ℕ) → IsCost A h r m → IsCost A (h ++ more) r n → m ≤ n
