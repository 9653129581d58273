-- Factors of a matrix with their pivots, and the certificates that are made of them (the PLUQ form of Bouillaguet, Delaplace and Voge, PASCO 2017).
use Rattle.std.specs.Prelude.{◌≡◌, ◌≢◌, ◌<◌, ◌+◌, ℕ, List, length, map, slice_index}
use Rattle.residue_words.specs.declared.plain.Pair.{Pair}
use Rattle.residue_words.specs.Matrix.{Matrix, IsMatrix, combine, entry, list_of, row}
use Rattle.row_space.specs.Echelon.{HasLeads, HasRank, IsRref}
use Rattle.row_space.specs.Kernel.{HasEnds, IsKernel, IsNull}

-- the row and the column of the k-th pivot
abbrev pub row_at : List Pair → ℕ → ℕ
row_at pivots k = slice_index (map (λ q. q.row) pivots) k

abbrev pub col_at : List Pair → ℕ → ℕ
col_at pivots k = slice_index (map (λ q. q.col) pivots) k

-- L and U are of the sizes of factors of A, with a column of L and a row of U for each pivot; the pivots lie in A, each in a row and a column of its own
pub record FitAsFactors (p : ℕ) (A : Matrix) (pivots : List Pair) (L U : Matrix) : Type 0 where
  pub left : IsMatrix p L
  pub right : IsMatrix p U
  pub left_height : L.height ≡ A.height
  pub left_width : L.width ≡ length pivots
  pub right_height : U.height ≡ length pivots
  pub right_width : U.width ≡ A.width
  pub rows_below : (k : ℕ) → k < length pivots → row_at pivots k < A.height
  pub columns_below : (k : ℕ) → k < length pivots → col_at pivots k < A.width
  pub rows_distinct : (k t : ℕ) → k < t → t < length pivots → row_at pivots k ≢ row_at pivots t
  pub columns_distinct : (k t : ℕ) → k < t → t < length pivots → col_at pivots k ≢ col_at pivots t

-- A = L U, where the rows of L and the columns of U at the pivots, in their order, are triangular with a diagonal that is nowhere 0
pub record AreFactors (p : ℕ) (A : Matrix) (pivots : List Pair) (L U : Matrix) : Type 0 where
  pub fit : FitAsFactors p A pivots L U
  pub product : (i : ℕ) → i < A.height → row A i ≡ combine p (row L i) U
  pub left_pivot : (k : ℕ) → k < length pivots → entry L (row_at pivots k) k ≢ 0
  pub right_pivot : (k : ℕ) → k < length pivots → entry U k (col_at pivots k) ≢ 0
  pub left_after : (k t : ℕ) → k < t → t < length pivots → entry L (row_at pivots k) t ≡ 0
  pub right_after : (k t : ℕ) → k < t → t < length pivots → entry U t (col_at pivots k) ≡ 0

-- E has the reduced form, and each row of U is the combination of its rows with U's entries at the leads: U = U' E
pub record ShowsRref (p : ℕ) (U E : Matrix) : Type 0 where
  pub matrix : IsMatrix p E
  pub height : E.height ≡ U.height
  pub width : E.width ≡ U.width
  pub form : (leads : List ℕ) × HasLeads E leads
      × ((k : ℕ) → k < U.height → row U k ≡ combine p
      (list_of E.height (λ t. entry U k (slice_index leads t))) E)

-- K has the reduced form, as many rows as A's width exceeds r, and each of them is a null vector of A
pub record ShowsKernel (p : ℕ) (A : Matrix) (r : ℕ) (K : Matrix) : Type 0 where
  pub matrix : IsMatrix p K
  pub height : K.height + r ≡ A.width
  pub width : K.width ≡ A.width
  pub form : (ends : List ℕ) × HasEnds K ends
  pub null : (k : ℕ) → k < K.height → IsNull p A (row K k)

-- what a certificate claims besides the rank
pub data Claim : Type 0 where
  Rank : Claim
  Rref : Matrix → Claim
  Kernel : Matrix → Claim

pub record Certificate : Type 0 where
  pub modulus : ℕ
  pub pivots : List Pair
  pub left : Matrix
  pub right : Matrix
  pub claim : Claim

-- what there is to see of a claim, given the factor U
abbrev pub Shows : ℕ → Matrix → ℕ → Matrix → Claim → Type 0
Shows p A r U Rank = Unit {0}
Shows p A r U (Rref E) = ShowsRref p U E
Shows p A r U (Kernel K) = ShowsKernel p A r K

-- the certificate is valid for A
pub record IsValid (p : ℕ) (A : Matrix) (c : Certificate) : Type 0 where
  pub modulus : c.modulus ≡ p
  pub factors : AreFactors p A c.pivots c.left c.right
  pub shows : Shows p A (length c.pivots) c.right c.claim

-- what a valid certificate says of A
abbrev pub IsTrueClaim : ℕ → Matrix → Claim → Type 0
IsTrueClaim p A Rank = Unit {0}
IsTrueClaim p A (Rref E) = IsRref p A E
IsTrueClaim p A (Kernel K) = IsKernel p A K

abbrev pub TellsOf : ℕ → Matrix → Certificate → Type 0
TellsOf p A c = HasRank p A (length c.pivots) × IsTrueClaim p A c.claim
