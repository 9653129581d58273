-- A row has at most one Schur row for a prime modulus.
use Rattle.std.proofs.Common.{ℕ, suc, ◌≡◌, ◌≢◌, ◌+◌, ◌-◌, ◌*◌, ◌%◌, ◌<◌, List, length, slice_index, sym, refl, ap, ◌∙◌, arith, mod-eq_of_lt}
use Rattle.residue_words.specs.declared.plain.Pair.{Pair}
use Rattle.residue_words.specs.Residues.{IsPrime, sum_below}
use Rattle.residue_words.specs.Matrix.{Matrix, IsMatrix, entry}
use Rattle.residue_words.proofs.Residues.{add_same, add_cancel, minus_one, mul_same, residue_equal}
use Rattle.residue_words.proofs.Sums.{sum_add, sum_equal, sum_same, sum_scale}
use Rattle.residue_words.proofs.Vectors.{entry_residue, vector_equal}
use Rattle.row_space.specs.Factors.{row_at, col_at}
use Rattle.row_space.proofs.Triangular.{upper_zero}
use Rattle.pivot_table.specs.Order.{Triangular}
use Rattle.triangular_solve.specs.Reduced.{IsReduced, SchurRowIsOne}

-- the diagonal of a triangular list
pub diagonal : {p : ℕ} {A : Matrix} {qs : List Pair} → IsMatrix p A → Triangular A qs → (k : ℕ) → k < length qs → entry A (row_at qs k) (col_at qs k) % p ≢ 0
diagonal {p} {A} {qs} m tri k l z =
    let n = tri.nonzero k l in
    n.2 (sym (mod-eq_of_lt (entry_residue p A m (row_at qs k) (col_at qs k) n.0 n.1)) ∙ z)

module _ {p : ℕ} {A : Matrix} {qs : List Pair} {v w x c d : List ℕ} (prime : IsPrime p) (m : IsMatrix p A) (tri : Triangular A qs) (h : IsReduced p A qs v (record { rest = w; coefficients = c })) (g : IsReduced p A qs v (record { rest = x; coefficients = d })) where
  part : List ℕ → ℕ → ℕ
  part y j = sum_below (length qs) (λ k. slice_index y k * entry A (row_at qs k) j)

  -- at a pivotal column only the pivot rows have an entry
  alone : (y u : List ℕ) → IsReduced p A qs v (record { rest = u; coefficients = y }) → (t : ℕ) → t < length qs → slice_index v (col_at qs t) ≡ part y (col_at qs t) % p
  unfolding part
  alone y u r t l = r.sum (col_at qs t) (tri.nonzero t l).1 ∙ ap (λ z. (z + part y (col_at qs t)) % p) (r.zero t l) ∙ ap (λ z. z % p) (let e : 0 + part y (col_at qs t) ≡ part y (col_at qs t) = omega arith in e)

  difference : ℕ → ℕ
  difference k = slice_index c k + (p - 1) * slice_index d k

  next : p ≡ suc (p - 1)
  next = let two = prime.two_or_more in omega arith

  differences : (t : ℕ) → t < length qs → sum_below (length qs) (λ k. difference k * entry A (row_at qs k) (col_at qs t)) % p ≡ 0
  unfolding part difference
  differences t l =
      let e : ℕ → ℕ = λ k. entry A (row_at qs k) (col_at qs t) in
      let f : ℕ → ℕ = λ k. slice_index c k * e k in
      let o : ℕ → ℕ = λ k. slice_index d k * e k in
      ap (λ z. z % p) (
      sum_equal (length qs) (λ k. (slice_index c k + (p - 1) * slice_index d k) * e k) (λ k. f k + (p - 1) * o k) (λ k b. let r : (slice_index c k + (p - 1) * slice_index d k) * e k ≡ f k + (p - 1) * o k = omega arith in r)
      ∙ sum_add (length qs) f (λ k. (p - 1) * o k)
      ∙ ap (λ z. sum_below (length qs) f + z) (sum_scale (length qs) (p - 1) o)
      )
      ∙ add_same p (sum_below (length qs) f) (sum_below (length qs) o) ((p - 1) * sum_below (length qs) o) ((p - 1) * sum_below (length qs) o) (sym (alone c w h t l) ∙ alone d x g t l) refl
      ∙ ap (λ z. z % p) (let r : sum_below (length qs) o + (p - 1) * sum_below (length qs) o ≡ (p - 1) * sum_below (length qs) o + sum_below (length qs) o = omega arith in r)
      ∙ minus_one p (p - 1) (sum_below (length qs) o) next

  -- the coefficients are the same
  pub coefficients_same : (k : ℕ) → k < length qs → slice_index c k % p ≡ slice_index d k % p
  unfolding difference
  coefficients_same k l =
      let none : difference k % p ≡ 0 = upper_zero p (length qs) difference (λ k t. entry A (row_at qs k) (col_at qs t)) prime (diagonal m tri) differences (λ k t a b. tri.after k t a b) k l in
      let other : (slice_index d k + (p - 1) * slice_index d k) % p ≡ 0 =
      ap (λ z. z % p) (let r : slice_index d k + (p - 1) * slice_index d k ≡ (p - 1) * slice_index d k + slice_index d k = omega arith in r) ∙ minus_one p (p - 1) (slice_index d k) next in
      add_cancel p (slice_index c k) (slice_index d k) ((p - 1) * slice_index d k) prime.two_or_more (none ∙ sym other)

  -- so what is left is
  pub rests_same : (j : ℕ) → j < A.width → slice_index w j % p ≡ slice_index x j % p
  unfolding part
  rests_same j l =
      let parts : part c j % p ≡ part d j % p =
      sum_same p (length qs) _ _ (λ k b. mul_same p (slice_index c k) (slice_index d k) (entry A (row_at qs k) j) (entry A (row_at qs k) j) (coefficients_same k b) refl) in
      add_cancel p (slice_index w j) (slice_index x j) (part c j) prime.two_or_more
      (sym (h.sum j l) ∙ g.sum j l ∙ add_same p (slice_index x j) (slice_index x j) (part d j) (part c j) refl (sym parts))

pub schur_row_one : SchurRowIsOne
schur_row_one p A qs v w x prime m tri h g =
    vector_equal p A.width w x h.0 g.0 (λ j l. residue_equal p (slice_index w j) (slice_index x j) (h.0.residues j l) (g.0.residues j l) (rests_same prime m tri h.1.1 g.1.1 j l))
