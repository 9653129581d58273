-- A solution from which the rows of the kernel basis are taken until it is 0 where they end.
use Rattle.std.proofs.Common.{ℕ, ◌≡◌, ◌+◌, ◌-◌, ◌*◌, ◌%◌, ◌<◌, ◌≤◌, inl, inr, List, slice_index, sym, ap, subst, ◌∙◌, arith, mul-zero, mod-eq_of_lt}
use native.Mathlib.Nat.{zero-mod}
use Rattle.std.proofs.lemmas.Bool.{cases_eq}
use Rattle.residue_words.specs.Matrix.{Matrix, IsVector, apply, entry, row}
use Rattle.residue_words.proofs.Residues.{multiple_zero}
use Rattle.residue_words.proofs.Vectors.{apply_linear, apply_vector, at_mix, at_zeros, length_list_of, list_equal, mix}
use Rattle.row_space.specs.Kernel.{EndsAt, HasEnds, IsKernel, IsNull}
use Rattle.row_space.specs.Solution.{IsReducedSolution, IsSolution}
use Rattle.kernel_solve.specs.Substituted.{AddsTimes}
use Rattle.kernel_solve.proofs.RowEnds.{end_found, row_ends}

-- x is a solution if `old` is one, and is 0 where the first k rows of the kernel basis end
pub record IsCleared (p : ℕ) (K : Matrix) (old : List ℕ) (k : ℕ) (x : List ℕ) : Type 0 where
  pub vector : IsVector p K.width x
  pub solves : (A : Matrix) (b : List ℕ) → IsKernel p A K → IsSolution p A b old → IsSolution p A b x
  pub cleared : (ends : List ℕ) → HasEnds K ends → (t : ℕ) → t < k → slice_index x (slice_index ends t) ≡ 0

pub cleared_none : {p : ℕ} {K : Matrix} {old : List ℕ} → IsVector p K.width old → IsCleared p K old 0 old
cleared_none vector = record { vector = vector; solves = λ A b kernel s. s; cleared = λ ends has t l. absurd (omega arith) }

-- a multiple of a null vector added to a solution
null_added : (p : ℕ) (A : Matrix) (b x v next : List ℕ) (by : ℕ) → 2 ≤ p → IsSolution p A b x → IsNull p A v → IsVector p A.width next → AddsTimes p by v x next → IsSolution p A b next
null_added p A b x v next by two s null vector adds =
    let is_mix : next ≡ mix p A.width 1 by x v = list_equal A.width next _ vector.len (length_list_of A.width _) (λ j l.
    let one : slice_index x j ≡ 1 * slice_index x j = omega arith in
    adds j (omega (arith, s.0.len)) ∙ ap (λ y. (y + by * slice_index v j) % p) one ∙ sym (at_mix p A.width 1 by x v j l)) in
    let residues : IsVector p A.height b = subst (IsVector p A.height) s.1 (apply_vector p A x (omega (arith, two))) in (
      vector,
      ap (apply p A) is_mix ∙ apply_linear p 1 by A x v
          ∙ list_equal A.height _ b (length_list_of A.height _) residues.len (λ i l.
          let none : slice_index (apply p A v) i ≡ 0 = ap (λ u. slice_index u i) null.1 ∙ at_zeros A.height i l in
          let same : slice_index (apply p A x) i ≡ slice_index b i = ap (λ u. slice_index u i) s.1 in
          let sum : 1 * slice_index (apply p A x) i + by * slice_index (apply p A v) i ≡ slice_index b i = omega (arith, same, ap (λ y. by * y) none, mul-zero by) in
          at_mix p A.height 1 by (apply p A x) (apply p A v) i l ∙ ap (λ y. y % p) sum ∙ mod-eq_of_lt (residues.residues i l)),
    )

-- what takes an entry to 0
taken_away : (p x : ℕ) → 2 ≤ p → x < p → (x + ((p - x) % p) * 1) % p ≡ 0
taken_away p x two l = elim (cases_eq x 0) [
  | inl e ↦
      let self : (p - x) % p ≡ 0 = ap (λ y. (p - y) % p) e ∙ (let n : p - 0 ≡ 1 * p = omega arith in ap (λ y. y % p) n) ∙ multiple_zero p 1 in
      let none : x + ((p - x) % p) * 1 ≡ 0 = omega (arith, self, e) in
      ap (λ y. y % p) none ∙ zero-mod p
  | inr d ↦
      let less : (p - x) % p ≡ p - x = mod-eq_of_lt (let n : p - x < p = omega (arith, d, two) in n) in
      let all : x + ((p - x) % p) * 1 ≡ 1 * p = omega (arith, less, l) in
      ap (λ y. y % p) all ∙ multiple_zero p 1
]

module _ {p : ℕ} {K : Matrix} {old x next : List ℕ} {k : ℕ} (two : 2 ≤ p) (h : IsCleared p K old k x) (l : k < K.height) (vector : IsVector p K.width next)
    (adds : (end : ℕ) → EndsAt K.width (row K k) end → AddsTimes p ((p - slice_index x end) % p) (row K k) x next) where
  pub cleared_more : IsCleared p K old (k + 1) next
  cleared_more = record {
    vector = vector;
    solves = λ A b kernel s.
        let ends : List ℕ = kernel.form.0 in
        let own = row_ends K ends kernel.form.1 k l in
        null_added p A b x (row K k) next _ two (h.solves A b kernel s) (kernel.null k l) (subst (λ n. IsVector p n next) kernel.width vector) (adds (slice_index ends k) own);
    cleared = λ ends has t less.
        let own : EndsAt K.width (row K k) (slice_index ends k) = row_ends K ends has k l in
        let by : ℕ = (p - slice_index x (slice_index ends k)) % p in
        let lt : t < K.height = omega arith in
        let at : slice_index next (slice_index ends t) ≡ (slice_index x (slice_index ends t) + by * entry K k (slice_index ends t)) % p = adds (slice_index ends k) own (slice_index ends t) (omega (arith, has.1.inside t lt, h.vector.len)) in
        elim (cases_eq t k) [
          | inl e ↦
              let here : (slice_index x (slice_index ends t) + by * entry K k (slice_index ends t)) % p ≡ (slice_index x (slice_index ends k) + by * 1) % p =
              ap (λ t. (slice_index x (slice_index ends t) + by * entry K k (slice_index ends t)) % p) e ∙ ap (λ y. (slice_index x (slice_index ends k) + by * y) % p) (has.1.one k l) in
              at ∙ here ∙ taken_away p (slice_index x (slice_index ends k)) two (h.vector.residues (slice_index ends k) (has.1.inside k l))
          | inr d ↦
              let none : by * entry K k (slice_index ends t) ≡ 0 = ap (λ y. by * y) (has.1.alone t k lt l (λ q. d (sym q))) ∙ mul-zero by in
              let sum : slice_index x (slice_index ends t) + by * entry K k (slice_index ends t) ≡ 0 = omega (arith, none, h.cleared ends has t (omega arith)) in
              at ∙ ap (λ y. y % p) sum ∙ zero-mod p
        ];
  }

-- where all rows are taken it is the reduced solution
pub cleared_all : {p : ℕ} {K : Matrix} {old x : List ℕ} {k : ℕ} → IsCleared p K old k x → k ≡ K.height → (A : Matrix) (b : List ℕ) → IsKernel p A K → IsSolution p A b old → IsReducedSolution p A b x
cleared_all {p} {K} {old} {x} {k} h all A b kernel s = record {
  solves = h.solves A b kernel s;
  reduced = λ z j null e.
      let c = kernel.every z null in
      let w = end_found p K kernel.form.0 c.0 z j kernel.form.1 c.1 c.2 (subst (λ n. EndsAt n z j) (sym kernel.width) e) in
      ap (slice_index x) (sym w.2) ∙ h.cleared kernel.form.0 kernel.form.1 w.0 (omega (arith, w.1, all));
}
