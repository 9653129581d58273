-- Rows added with their coefficients, one after another; and when the sums end at 0.
use Rattle.std.proofs.Common.{ℕ, suc, ◌≡◌, ◌≢◌, ◌+◌, ◌-◌, ◌*◌, ◌%◌, ◌<◌, ◌≤◌, ◌↔◌, inl, inr, List, [], length, slice_index, sym, refl, ap, ap₂, subst, ◌∙◌, arith, mod-eq_of_lt, mul-zero, zero-mul}
use native.Mathlib.Nat.{mod-mod}
use Rattle.std.proofs.lemmas.Bool.{cases_eq, cases_lt}
use Rattle.std.proofs.lemmas.List.{get_or_past}
use Rattle.residue_words.specs.Matrix.{Matrix, IsMatrix, IsVector, entry, row}
use Rattle.residue_words.specs.Residues.{sum_below}
use Rattle.residue_words.proofs.Residues.{add_same, add_cancel, minus_one, multiple_zero}
use Rattle.residue_words.proofs.Sums.{sum_none, sum_more, sum_equal, sum_support, sum_zero}
use Rattle.sparse_rows.specs.ColumnSet.{AllZero}
use Rattle.sparse_rows.specs.Rows.{nonzeros, support}
use Rattle.sparse_rows.specs.Stored.{IsSparse, entry_at}
use Rattle.sparse_rows.proofs.Spread.{at_spread, entry_cover, entry_here, entry_support, spread_vector, support_sparse}
use Rattle.cert_checker.specs.Product.{IsCombined, IsZeroAlong, IsZeroAt, combined_at}
use Rattle.cert_checker.proofs.Ending.{stored_cover, stored_positive}

-- the combination with the first k coefficients
abbrev pub stored_sum : List ℕ → List ℕ → Matrix → ℕ → ℕ → ℕ
stored_sum cols vals B j k = sum_below k (λ q. slice_index vals q * entry B (slice_index cols q) j)

pub stored_sum_all : {p : ℕ} (cols vals : List ℕ) (B : Matrix) (j : ℕ) → IsSparse p B.height cols vals → combined_at (entry_at cols vals) B j ≡ stored_sum cols vals B j (length cols)
stored_sum_all {p} cols vals B j s =
    let f : ℕ → ℕ = λ c. entry_at cols vals c * entry B c j in
    sum_support B.height (length cols) f (slice_index cols) s.below s.rising
    (λ c l. elim (entry_cover cols vals c) [
      | inl z ↦ inl (ap (λ a. a * entry B c j) z ∙ zero-mul (entry B c j))
      | inr w ↦ inr w
    ])
    ∙ sum_equal (length cols) _ _ (λ k l. ap (λ a. a * entry B (slice_index cols k) j) (entry_here cols vals s.long s.rising k l))

-- the rows of the first k coefficients are added
pub record IsAddingRows (p : ℕ) (cols vals : List ℕ) (B : Matrix) (before : List ℕ) (k : ℕ) (sums : List ℕ) : Type 0 where
  pub residues : IsVector p B.width sums
  pub sums_are : (j : ℕ) → j < B.width → slice_index sums j ≡ (slice_index before j + stored_sum cols vals B j k) % p

pub adding_rows_none : (p : ℕ) (cols vals : List ℕ) (B : Matrix) (before : List ℕ) → IsVector p B.width before → IsAddingRows p cols vals B before 0 before
adding_rows_none p cols vals B before h = record {
  residues = h;
  sums_are = λ j l.
      let none : stored_sum cols vals B j 0 ≡ 0 = sum_none _ in
      let e : slice_index before j + stored_sum cols vals B j 0 ≡ slice_index before j = omega (arith, none) in
      sym (ap (λ x. x % p) e ∙ mod-eq_of_lt (h.residues j l));
}

pub adding_rows_more : {p : ℕ} {cols vals : List ℕ} {B : Matrix} {before : List ℕ} {k : ℕ} {sums : List ℕ} → IsAddingRows p cols vals B before k sums →
    (after : List ℕ) → IsVector p B.width after →
    ((j : ℕ) → j < B.width → slice_index after j ≡ (slice_index sums j + slice_index vals k * entry B (slice_index cols k) j) % p) →
    IsAddingRows p cols vals B before (k + 1) after
adding_rows_more {p} {cols} {vals} {B} {before} {k} {sums} a after h e = record {
  residues = h;
  sums_are = λ j l.
      let x : ℕ = slice_index vals k * entry B (slice_index cols k) j in
      let s : ℕ = stored_sum cols vals B j k in
      let b : ℕ = slice_index before j in
      let one : (slice_index sums j + x) % p ≡ (b + s + x) % p =
      add_same p (slice_index sums j) (b + s) x x (ap (λ t. t % p) (a.sums_are j l) ∙ mod-mod (b + s) p) refl in
      let two : b + s + x ≡ b + stored_sum cols vals B j (k + 1) = omega (arith, sum_more k (λ q. slice_index vals q * entry B (slice_index cols q) j)) in
      e j l ∙ one ∙ ap (λ t. t % p) two;
}

-- a value that is taken off is p - 1 times it that is added
pub taken_off : (p v : ℕ) → 2 ≤ p → v < p → (p - v) % p ≡ ((p - 1) * v) % p
taken_off p v two small =
    let q : ℕ = p - 1 in
    let suc_q : p ≡ suc q = omega arith in
    let whole : p - v + v ≡ 1 * p = omega arith in
    add_cancel p (p - v) (q * v) v two (ap (λ t. t % p) whole ∙ multiple_zero p 1 ∙ sym (minus_one p q v suc_q))

-- minus v and s come to 0 exactly where v is s
pub balanced : (p v s d : ℕ) → 2 ≤ p → v < p → d ≡ ((0 + (p - 1) * v) % p + s) % p → (d ≡ 0) ↔ (v ≡ s % p)
balanced p v s d two small e =
    let q : ℕ = p - 1 in
    let suc_q : p ≡ suc q = omega arith in
    let m : (q * v + v) % p ≡ 0 = minus_one p q v suc_q in
    let z : 0 + q * v ≡ q * v = omega arith in
    let d_is : d ≡ (q * v + s) % p = e ∙ add_same p ((0 + q * v) % p) (q * v) s s (mod-mod (0 + q * v) p ∙ ap (λ t. t % p) z) refl in
    let turn_v : (v + q * v) ≡ q * v + v = omega arith in
    let turn_s : (s + q * v) ≡ q * v + s = omega arith in (
      λ zero_d.
          let same : (v + q * v) % p ≡ (s + q * v) % p = ap (λ t. t % p) turn_v ∙ m ∙ sym zero_d ∙ d_is ∙ ap (λ t. t % p) (sym turn_s) in
          sym (mod-eq_of_lt small) ∙ add_cancel p v s (q * v) two same,
      λ is.
          d_is ∙ add_same p (q * v) (q * v) s v refl (sym is ∙ sym (mod-eq_of_lt small)) ∙ m,
    )

-- an entry that isn't 0 lies inside
pub entry_inside : (p : ℕ) (B : Matrix) → IsMatrix p B → (t j : ℕ) → entry B t j ≢ 0 → (t < B.height) × (j < B.width)
entry_inside p B m t j d =
    elim (cases_lt t B.height) [
      | inr l ↦
          let none : row B t ≡ [] = get_or_past B.rows t [] (omega (arith, m.len)) in
          absurd (d (ap (λ v. slice_index v j) none))
      | inl l ↦ (
        l,
        elim (cases_lt j B.width) [
          | inl b ↦ b
          | inr b ↦ absurd (d (get_or_past (row B t) j 0 (omega (arith, (m.each t l).len))))
        ],
      )
    ]

-- sums that are 0 at a row's stored columns are 0 wherever the row isn't
pub zero_where : (v sums : List ℕ) → IsZeroAt sums (support v) → (j : ℕ) → slice_index v j ≢ 0 → slice_index sums j ≡ 0
zero_where v sums z j d = elim (stored_cover v j) [ inl e ↦ absurd (d e) | inr w ↦ ap (slice_index sums) (sym w.2) ∙ z w.0 w.1 ]

pub zero_stored : (p n : ℕ) (v sums : List ℕ) → IsVector p n v → ((j : ℕ) → slice_index v j ≢ 0 → slice_index sums j ≡ 0) → IsZeroAt sums (support v)
zero_stored p n v sums h z q l = z (slice_index (support v) q) (λ e. omega (arith, e, stored_positive h q l))

pub along_more : (sums rows : List ℕ) (B : Matrix) (k : ℕ) →
    ((t : ℕ) → t < k → (j : ℕ) → entry B (slice_index rows t) j ≢ 0 → slice_index sums j ≡ 0) →
    ((j : ℕ) → entry B (slice_index rows k) j ≢ 0 → slice_index sums j ≡ 0) →
    (t : ℕ) → t < k + 1 → (j : ℕ) → entry B (slice_index rows t) j ≢ 0 → slice_index sums j ≡ 0
along_more sums rows B k old new t l j d =
    elim (cases_eq t k) [
      | inl same ↦ new j (λ e. d (ap (λ x. entry B (slice_index rows x) j) same ∙ e))
      | inr o ↦ old t (omega arith) j d
    ]

-- sums that are 0 wherever something came are 0
module _ (p : ℕ) (row_cols row_vals cols vals : List ℕ) (B : Matrix) (sums : List ℕ)
    (two : 2 ≤ p) (m : IsMatrix p B) (r : IsSparse p B.width row_cols row_vals) (s : IsSparse p B.height cols vals)
    (are : (j : ℕ) → j < B.width → slice_index sums j ≡ ((0 + (p - 1) * entry_at row_cols row_vals j) % p + combined_at (entry_at cols vals) B j) % p) where
  zero_mod : (0 % p + 0) % p ≡ 0
  zero_mod =
      let pos : 0 < p = omega arith in
      let z : 0 % p ≡ 0 = mod-eq_of_lt pos in
      ap (λ t. (t + 0) % p) z ∙ z

  pub zero_everywhere : IsZeroAt sums row_cols → IsZeroAlong sums cols B → (j : ℕ) → j < B.width → slice_index sums j ≡ 0
  zero_everywhere here along j l = elim (entry_cover row_cols row_vals j) [
    | inr w ↦ ap (slice_index sums) (sym w.2) ∙ here w.0 w.1
    | inl z ↦ elim (cases_eq (slice_index sums j) 0) [
      | inl done ↦ done
      | inr d ↦
          let none : combined_at (entry_at cols vals) B j ≡ 0 = stored_sum_all {p = p} cols vals B j s ∙ sum_zero (length cols) _ (λ q l.
          elim (cases_eq (entry B (slice_index cols q) j) 0) [
            | inl f ↦ ap (λ t. slice_index vals q * t) f ∙ mul-zero (slice_index vals q)
            | inr f ↦ absurd (d (along q l j f))
          ]) in
          let left : (0 + (p - 1) * entry_at row_cols row_vals j) ≡ 0 = ap (λ t. 0 + (p - 1) * t) z ∙ ap (λ t. 0 + t) (mul-zero (p - 1)) in
          are j l ∙ ap₂ (λ a b. (a % p + b) % p) left none ∙ zero_mod
    ]
  ]

  small : (j : ℕ) → j < B.width → entry_at row_cols row_vals j < p
  small j l = omega (arith, at_spread B.width row_cols row_vals j l, (spread_vector (let pos : 0 < p = omega arith in pos) r).residues j l)

  pub combined_yes : IsZeroAt sums row_cols → IsZeroAlong sums cols B → IsCombined p (entry_at row_cols row_vals) (entry_at cols vals) B
  combined_yes here along j l = (balanced p (entry_at row_cols row_vals j) (combined_at (entry_at cols vals) B j) (slice_index sums j) two (small j l) (are j l)).0 (zero_everywhere here along j l)

  pub combined_zero : IsCombined p (entry_at row_cols row_vals) (entry_at cols vals) B → (j : ℕ) → j < B.width → slice_index sums j ≡ 0
  combined_zero is j l = (balanced p (entry_at row_cols row_vals j) (combined_at (entry_at cols vals) B j) (slice_index sums j) two (small j l) (are j l)).1 (is j l)

  pub combined_here : IsCombined p (entry_at row_cols row_vals) (entry_at cols vals) B → IsZeroAt sums row_cols
  combined_here is q l = combined_zero is (slice_index row_cols q) (r.below q l)

  pub combined_along : IsCombined p (entry_at row_cols row_vals) (entry_at cols vals) B → IsZeroAlong sums cols B
  combined_along is k l j d = combined_zero is j (entry_inside p B m _ j d).1

-- plain rows and their stored columns and values
pub stored_combined : (p : ℕ) (v y : List ℕ) (B : Matrix) → IsCombined p (entry_at (support v) (nonzeros v)) (entry_at (support y) (nonzeros y)) B ↔ IsCombined p (slice_index v) (slice_index y) B
stored_combined p v y B =
    let same : (j : ℕ) → combined_at (entry_at (support y) (nonzeros y)) B j ≡ combined_at (slice_index y) B j = λ j.
    sum_equal B.height _ _ (λ c b. ap (λ t. t * entry B c j) (entry_support y c)) in (
      λ h j l. sym (entry_support v j) ∙ h j l ∙ ap (λ s. s % p) (same j),
      λ h j l. entry_support v j ∙ h j l ∙ ap (λ s. s % p) (sym (same j)),
    )

-- row i of V and of Y: what the sums are after the one was taken off and the rows for the other were added
module _ {p : ℕ} {V Y B : Matrix} (i : ℕ) (two : 2 ≤ p) (v : IsMatrix p V) (y : IsMatrix p Y) (b : IsMatrix p B) (lv : i < V.height) (ly : i < Y.height)
    (width : V.width ≡ B.width) (inner : Y.width ≡ B.height) (before middle sums : List ℕ) (long : length before ≡ B.width) (zero : AllZero before)
    (took : (j : ℕ) → j < length before → slice_index middle j ≡ (slice_index before j + (p - 1) * entry_at (support (row V i)) (nonzeros (row V i)) j) % p)
    (added : (j : ℕ) → j < B.width → slice_index sums j ≡ (slice_index middle j + combined_at (entry_at (support (row Y i)) (nonzeros (row Y i))) B j) % p) where
  taken : IsSparse p B.width (support (row V i)) (nonzeros (row V i))
  taken = subst (λ n. IsSparse p n (support (row V i)) (nonzeros (row V i))) width (support_sparse (v.each i lv))

  factors : IsSparse p B.height (support (row Y i)) (nonzeros (row Y i))
  factors = subst (λ n. IsSparse p n (support (row Y i)) (nonzeros (row Y i))) inner (support_sparse (y.each i ly))

  sums_are : (j : ℕ) → j < B.width → slice_index sums j ≡ ((0 + (p - 1) * entry_at (support (row V i)) (nonzeros (row V i)) j) % p + combined_at (entry_at (support (row Y i)) (nonzeros (row Y i))) B j) % p
  sums_are j l =
      added j l ∙ ap (λ t. (t + combined_at (entry_at (support (row Y i)) (nonzeros (row Y i))) B j) % p)
      (took j (omega (arith, long)) ∙ ap (λ a. (a + (p - 1) * entry_at (support (row V i)) (nonzeros (row V i)) j) % p) (zero j (omega (arith, long))))

  plain : IsCombined p (entry_at (support (row V i)) (nonzeros (row V i))) (entry_at (support (row Y i)) (nonzeros (row Y i))) B ↔ IsCombined p (entry V i) (entry Y i) B
  plain = stored_combined p (row V i) (row Y i) B

  pub row_zero : IsZeroAt sums (support (row V i)) → IsZeroAlong sums (support (row Y i)) B → (j : ℕ) → j < B.width → slice_index sums j ≡ 0
  row_zero = zero_everywhere p _ _ _ _ B sums two b taken factors sums_are

  pub row_yes : IsZeroAt sums (support (row V i)) → IsZeroAlong sums (support (row Y i)) B → IsCombined p (entry V i) (entry Y i) B
  row_yes here along = plain.0 (combined_yes p _ _ _ _ B sums two b taken factors sums_are here along)

  pub row_here : IsCombined p (entry V i) (entry Y i) B → IsZeroAt sums (support (row V i))
  row_here is = combined_here p _ _ _ _ B sums two b taken factors sums_are (plain.1 is)

  pub row_along : IsCombined p (entry V i) (entry Y i) B → IsZeroAlong sums (support (row Y i)) B
  row_along is = combined_along p _ _ _ _ B sums two b taken factors sums_are (plain.1 is)
