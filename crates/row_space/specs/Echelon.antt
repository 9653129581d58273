-- The reduced row echelon form of a matrix, and its rank (textbook).
use Rattle.std.specs.Prelude.{◌≡◌, ◌≢◌, ◌<◌, ◌↔◌, ℕ, List, length, slice_index}
use Rattle.residue_words.specs.Matrix.{Matrix, IsMatrix, IsVector, IsCombination, combine, entry, zeros}

-- Each of r rows has its own place: row k is 1 at place k, 0 at each column that lies Past it, and 0 at the places of the other rows;
-- and the places rise. The echelon form (Past: to the left) and the kernel basis (Past: to the right) are both of this kind.
pub record HasPlaces (Past : ℕ → ℕ → Type 0) (r n : ℕ) (e : ℕ → ℕ → ℕ) (place : ℕ → ℕ) : Type 0 where
  pub inside : (k : ℕ) → k < r → place k < n
  pub one : (k : ℕ) → k < r → e k (place k) ≡ 1
  pub past : (k j : ℕ) → k < r → j < n → Past j (place k) → e k j ≡ 0
  pub rising : (k t : ℕ) → k < t → t < r → place k < place t
  pub alone : (k t : ℕ) → k < r → t < r → t ≢ k → e t (place k) ≡ 0

-- the first nonzero entries of the rows of E are ones and stand at these rising columns, the leads, where every other row is 0
abbrev pub HasLeads : Matrix → List ℕ → Type 0
HasLeads E leads = (length leads ≡ E.height) × HasPlaces (λ j lead. j < lead) E.height E.width (entry E)
    (slice_index leads)

-- A and E have the same row space
abbrev pub SameSpan : ℕ → Matrix → Matrix → Type 0
SameSpan p A E = (v : List ℕ) → IsCombination p A v ↔ IsCombination p E v

-- E is the reduced row echelon form of A
pub record IsRref (p : ℕ) (A E : Matrix) : Type 0 where
  pub matrix : IsMatrix p E
  pub width : E.width ≡ A.width
  pub form : (leads : List ℕ) × HasLeads E leads
  pub span : SameSpan p A E

-- the rank of A is the number of rows of its reduced echelon form
abbrev pub HasRank : ℕ → Matrix → ℕ → Type 0
HasRank p A r = (E : Matrix) × IsRref p A E × (E.height ≡ r)

-- only the zero combination of the rows of A is zero
abbrev pub IsIndependent : ℕ → Matrix → Type 0
IsIndependent p A = (y : List ℕ) → IsVector p A.height y → combine p y A ≡ zeros A.width → y ≡ zeros A.height
