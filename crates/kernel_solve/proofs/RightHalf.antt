-- How the right half of a matrix is copied, row by row.
use Rattle.std.proofs.Common.{ℕ, ◌≡◌, ◌+◌, ◌-◌, ◌<◌, ◌≤◌, inl, inr, List, [], ◌∷◌, ◌++◌, length, take, slice_index, slice_set, sym, ap, ap₂, ◌∙◌, arith}
use Rattle.std.proofs.lemmas.Bool.{cases_eq}
use Rattle.std.proofs.lemmas.List.{get_or-set_other, get_or-set_same, get_or-take, length-set, length-take-le, take_more}
use Rattle.residue_words.specs.Matrix.{entry}
use Rattle.sparse_rows.specs.Rows.{ResidueMatrix, ResidueRow, matrix_by}
use Rattle.sparse_rows.specs.Stored.{entry_at}
use Rattle.sparse_rows.proofs.Spread.{entry_beyond, entry_push_other, entry_push_same}

-- the first i rows are those of the right half
pub record IsHalfSoFar (from : ResidueMatrix) (n i : ℕ) (half : ResidueMatrix) (to : ResidueRow) : Type 0 where
  pub modulus : half.modulus ≡ from.modulus
  pub matrix : half.matrix ≡ matrix_by i n (λ i j. entry from.matrix i (n + j))
  pub row_modulus : to.modulus ≡ from.modulus
  pub row_length : length to.row ≡ n

-- the row has the first k stored entries from column n on
pub record IsCopiedFrom (n k : ℕ) (cs vs to : List ℕ) : Type 0 where
  pub long : length to ≡ n
  pub each : (j : ℕ) → j < n → slice_index to j ≡ entry_at (take k cs) (take k vs) (n + j)

module _ (n k : ℕ) (cs vs to : List ℕ) (same : length cs ≡ length vs) (rising : (s t : ℕ) → s < t → t < length cs → slice_index cs s < slice_index cs t)
    (l : k < length cs) (copied : IsCopiedFrom n k cs vs to) where
  earlier : (t : ℕ) → t < length (take k cs) → slice_index (take k cs) t < slice_index cs k
  earlier t b =
      let low : t < k = omega (arith, length-take-le k cs (omega arith)) in
      omega (arith, get_or-take k cs t 0 low, rising t k low l)

  columns : take (k + 1) cs ≡ take k cs ++ slice_index cs k ∷ []
  columns = take_more cs k 0 l

  values : take (k + 1) vs ≡ take k vs ++ slice_index vs k ∷ []
  values = take_more vs k 0 (omega arith)

  long : length (take k cs) ≡ length (take k vs)
  long = length-take-le k cs (omega arith) ∙ sym (length-take-le k vs (omega arith))

  -- it is 0 from the next column on
  pub half_behind : (j : ℕ) → slice_index cs k ≤ n + j → j < n → slice_index to j ≡ 0
  half_behind j a b = copied.each j b ∙ entry_beyond (take k cs) (take k vs) (slice_index cs k) (n + j) earlier a

  at_other : (j : ℕ) → (slice_index cs k ≡ n + j → ⊥) → entry_at (take k cs) (take k vs) (n + j) ≡ entry_at (take (k + 1) cs) (take (k + 1) vs) (n + j)
  at_other j d = sym (ap₂ (λ a b. entry_at a b (n + j)) columns values ∙ entry_push_other (take k cs) (take k vs) (slice_index cs k) (slice_index vs k) (n + j) long d)

  -- an entry to the left is left out
  pub half_left : slice_index cs k < n → IsCopiedFrom n (k + 1) cs vs to
  half_left low = record { long = copied.long; each = λ j b. copied.each j b ∙ at_other j (λ e. omega arith) }

  -- another one is copied
  pub half_more : (next : List ℕ) → n ≤ slice_index cs k → slice_index cs k < n + n → next ≡ slice_set to (slice_index cs k - n) (slice_index vs k) → IsCopiedFrom n (k + 1) cs vs next
  half_more next high inside made =
      let c : ℕ = slice_index cs k in
      let v : ℕ = slice_index vs k in
      record {
        long = ap length made ∙ length-set to (c - n) v ∙ copied.long;
        each = λ j b. ap (λ u. slice_index u j) made ∙ elim (cases_eq c (n + j)) [
          | inl e ↦
              let here : j ≡ c - n = omega arith in
              ap (slice_index (slice_set to (c - n) v)) here ∙ get_or-set_same to (c - n) v 0 (omega (arith, copied.long))
              ∙ sym (ap (entry_at (take (k + 1) cs) (take (k + 1) vs)) (sym e) ∙ ap₂ (λ a b. entry_at a b c) columns values ∙ entry_push_same (take k cs) (take k vs) c v long earlier)
          | inr d ↦ get_or-set_other to (c - n) j v 0 (λ q. d (omega arith)) ∙ copied.each j b ∙ at_other j d
        ];
      }
