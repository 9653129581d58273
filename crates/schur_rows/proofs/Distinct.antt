-- The pairs of a triangular list stand in different rows and columns, so they are no more than either.
use Rattle.std.proofs.Common.{ℕ, ◌≢◌, ◌<◌, ◌≤◌, ◌∙◌, inl, inr, List, length, sym, ap, arith}
use Rattle.std.proofs.lemmas.Bool.{cases_eq, cases_lt}
use Rattle.residue_words.specs.declared.plain.Pair.{Pair}
use Rattle.residue_words.specs.Matrix.{Matrix, entry}
use Rattle.row_space.specs.Factors.{row_at, col_at}
use Rattle.row_space.proofs.Counting.{pigeonhole}
use Rattle.pivot_table.specs.Order.{Triangular}

-- the rows, and the columns, of a triangular list differ
pub triangular_rows : {A : Matrix} {qs : List Pair} → Triangular A qs → (k t : ℕ) → k < t → t < length qs → row_at qs k ≢ row_at qs t
triangular_rows {A} {qs} tri k t a l same = (tri.nonzero k (omega arith)).2 (ap (λ i. entry A i (col_at qs k)) same ∙ tri.after k t a l)

pub triangular_columns : {A : Matrix} {qs : List Pair} → Triangular A qs → (k t : ℕ) → k < t → t < length qs → col_at qs k ≢ col_at qs t
triangular_columns {A} {qs} tri k t a l same = (tri.nonzero t l).2 (ap (entry A (row_at qs t)) (sym same) ∙ tri.after k t a l)

-- places below n that differ are no more than n
few_places : (n : ℕ) (qs : List Pair) (place : List Pair → ℕ → ℕ) → ((k : ℕ) → k < length qs → place qs k < n) → ((k t : ℕ) → k < t → t < length qs → place qs k ≢ place qs t) → length qs ≤ n
few_places n qs place inside apart = pigeonhole (length qs) n (place qs) inside (λ k t lk lt same.
    elim (cases_eq k t) [
      | inl e ↦ e
      | inr d ↦ elim (cases_lt k t) [ inl less ↦ absurd (apart k t less lt same) | inr more ↦ absurd (apart t k (omega arith) lk (sym same)) ]
    ])

pub triangular_short : {A : Matrix} {qs : List Pair} → Triangular A qs → length qs ≤ A.height
triangular_short {A} {qs} tri = few_places A.height qs row_at (λ k l. (tri.nonzero k l).0) (triangular_rows tri)

pub triangular_narrow : {A : Matrix} {qs : List Pair} → Triangular A qs → length qs ≤ A.width
triangular_narrow {A} {qs} tri = few_places A.width qs col_at (λ k l. (tri.nonzero k l).1) (triangular_columns tri)
