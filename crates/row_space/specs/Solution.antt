-- The solution of A x = b that is told, and the row combination that refutes an unsolvable system.
use Rattle.std.specs.Prelude.{◌≡◌, ◌+◌, ◌++◌, ℕ, List, [], ◌∷◌, map, slice_index}
use Rattle.std.specs.List.{range_with_len}
use Rattle.residue_words.specs.Matrix.{Matrix, IsVector, apply, combine, dot, entry, list_of, row, zeros}
use Rattle.row_space.specs.Kernel.{IsNull, EndsAt}

-- A x = b
abbrev pub IsSolution : ℕ → Matrix → List ℕ → List ℕ → Type 0
IsSolution p A b x = IsVector p A.width x × (apply p A x ≡ b)

-- of all solutions, the one that is 0 at each column that is the last nonzero place of some null vector of A
pub record IsReducedSolution (p : ℕ) (A : Matrix) (b x : List ℕ) : Type 0 where
  pub solves : IsSolution p A b x
  pub reduced : (z : List ℕ) (j : ℕ) → IsNull p A z → EndsAt A.width z j → slice_index x j ≡ 0

-- y A = 0 and y . b = c
abbrev pub Annuls : ℕ → Matrix → List ℕ → ℕ → List ℕ → Type 0
Annuls p A b c y = IsVector p A.height y × (combine p y A ≡ zeros A.width) × (dot p A.height y b ≡ c)

-- y A = 0 and y . b = 1, so no x has A x = b; of all such y, the one that is 0 at each index that is the last nonzero
-- place of some z with z A = 0 and z . b = 0
pub record IsRefutingCombination (p : ℕ) (A : Matrix) (b y : List ℕ) : Type 0 where
  pub refutes : Annuls p A b 1 y
  pub reduced : (z : List ℕ) (i : ℕ) → Annuls p A b 0 z → EndsAt A.height z i → slice_index y i ≡ 0

-- [A | b]
abbrev pub augmented : Matrix → List ℕ → Matrix
augmented A b = record {
  height = A.height;
  width = A.width + 1;
  rows = map (λ i. row A i ++ slice_index b i ∷ []) (range_with_len 0 A.height);
}

-- the matrix whose rows are those of A transposed, and b: the equations for a refuting combination
abbrev pub refuting_rows : Matrix → List ℕ → Matrix
refuting_rows A b = record {
  height = A.width + 1;
  width = A.height;
  rows = map (λ j. list_of A.height (λ i. entry A i j)) (range_with_len 0 A.width)
      ++ list_of A.height (slice_index b) ∷ [];
}

-- the right-hand side of these equations for a matrix of this width: zeros, and a one at the end
abbrev pub refuting_side : ℕ → List ℕ
refuting_side n = zeros n ++ 1 ∷ []
