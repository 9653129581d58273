-- Products over the columns alone in which the right factor has entries; and rows without entries.
use Rattle.std.proofs.Common.{ℕ, ◌≡◌, ◌≢◌, ◌+◌, ◌*◌, ◌%◌, ◌<◌, ◌≤◌, ◌↔◌, inl, inr, List, length, slice_index, sym, ap, subst, ◌∙◌, arith, mul-zero, zero-mul}
use native.Mathlib.Nat.{zero-mod}
use Rattle.std.specs.List.{Contains}
use Rattle.std.proofs.lemmas.Bool.{cases_eq, cases_lt}
use Rattle.residue_words.specs.Matrix.{Matrix, IsMatrix, entry}
use Rattle.residue_words.proofs.Lists.{place_in}
use Rattle.residue_words.proofs.Sums.{sum_equal, sum_has, sum_zero}
use Rattle.residue_words.proofs.Vectors.{entry_matrix_of}
use Rattle.sparse_rows.specs.Placed.{IsNextInEither, AreBothZeroFrom}
use Rattle.sparse_rows.specs.Rows.{AreEnough, AreOccupied, IsZeroRow, narrowed}
use Rattle.sparse_rows.proofs.FilledRows.{zero_entry}
use Rattle.cert_checker.specs.Product.{AreAllIn, IsCombined, IsProduct, combined_at}

-- a sum that isn't 0 modulo p has a row of B that isn't 0 there
pub combined_has : (p : ℕ) (y : ℕ → ℕ) (B : Matrix) (j : ℕ) → combined_at y B j % p ≢ 0 → (t : ℕ) × (t < B.height) × (entry B t j ≢ 0)
combined_has p y B j d =
    let w = sum_has B.height (λ t. y t * entry B t j) (λ e. d (ap (λ x. x % p) e ∙ zero-mod p)) in
    (w.0, w.1, λ z. w.2 (ap (λ x. y w.0 * x) z ∙ mul-zero (y w.0)))

module _ (p : ℕ) (V Y B : Matrix) (columns : List ℕ) (width : V.width ≡ B.width) where
  -- where the right factor has no entry in a column the product has none
  pub product_occupied : (touched : List ℕ) → AreOccupied V touched → AreEnough B columns → IsProduct p V Y B → AreAllIn columns touched
  product_occupied touched v b h k l =
      let w = v.occupied k l in
      let j : ℕ = slice_index touched k in
      let inside : j < B.width = omega (arith, v.enough.below k l, width) in
      let t = combined_has p (entry Y w.0) B j (λ z. w.2 (h w.0 w.1 j inside ∙ z)) in
      b.all t.0 j t.1 inside t.2

  pub occupied_enough : (touched : List ℕ) → AreOccupied V touched → AreEnough B columns → AreAllIn columns touched → AreEnough V columns
  occupied_enough touched v b all = record {
    rising = b.rising;
    below = λ k l. omega (arith, b.below k l, width);
    all = λ i j li lj d. let w = place_in touched j (v.enough.all i j li lj d) in subst (Contains columns) w.2 (all w.0 w.1);
  }

  narrow_entry : (A : Matrix) → (i k : ℕ) → i < A.height → k < length columns → entry (narrowed A columns) i k ≡ entry A i (slice_index columns k)
  narrow_entry A i k li lk = entry_matrix_of A.height (length columns) (λ i k. entry A i (slice_index columns k)) i k li lk

  narrow_sum : (y : ℕ → ℕ) (k : ℕ) → k < length columns → combined_at y (narrowed B columns) k ≡ combined_at y B (slice_index columns k)
  narrow_sum y k l = sum_equal B.height _ _ (λ t b. ap (λ x. y t * x) (narrow_entry B t k b l))

  pub product_narrowed : AreEnough V columns → AreEnough B columns → IsProduct p (narrowed V columns) Y (narrowed B columns) ↔ IsProduct p V Y B
  product_narrowed v b = (
    λ h i li j lj.
        let there : Contains columns j → entry V i j ≡ combined_at (entry Y i) B j % p = λ c.
        let w = place_in columns j c in
        subst (λ j. entry V i j ≡ combined_at (entry Y i) B j % p) w.2 (sym (narrow_entry V i w.0 li w.1) ∙ h i li w.0 w.1 ∙ ap (λ x. x % p) (narrow_sum (entry Y i) w.0 w.1)) in
        elim (cases_eq (entry V i j) 0) [
          | inr d ↦ there (v.all i j li (omega (arith, width)) d)
          | inl z ↦ elim (cases_eq (combined_at (entry Y i) B j % p) 0) [
            | inl y ↦ z ∙ sym y
            | inr d ↦ let t = combined_has p (entry Y i) B j d in there (b.all t.0 j t.1 lj t.2)
          ]
        ],
    λ h i li k lk. narrow_entry V i k li lk ∙ h i li (slice_index columns k) (b.below k lk) ∙ ap (λ x. x % p) (sym (narrow_sum (entry Y i) k lk)),
  )

-- a row without entries is the combination without coefficients
pub zero_combined : (p : ℕ) (V Y B : Matrix) (i : ℕ) → IsMatrix p V → IsMatrix p Y → V.width ≡ B.width → Y.width ≡ B.height → i < V.height → i < Y.height → IsZeroRow V i → IsZeroRow Y i →
    IsCombined p (entry V i) (entry Y i) B
zero_combined p V Y B i v y width inner lv ly zv zy j l =
    zero_entry v i j lv (omega (arith, width)) zv
    ∙ sym (ap (λ x. x % p) (sum_zero B.height (λ t. entry Y i t * entry B t j) (λ t b. ap (λ x. x * entry B t j) (zero_entry y i t ly (omega (arith, inner)) zy) ∙ zero-mul (entry B t j))) ∙ zero-mod p)

-- the rows before `from` are as they should be, and so are those up to the next with an entry
pub record AreCombinedBefore (p : ℕ) (V Y B : Matrix) (from : ℕ) : Type 0 where
  pub within : from ≤ V.height
  pub before : (i : ℕ) → i < from → IsCombined p (entry V i) (entry Y i) B

module _ {p : ℕ} {V Y B : Matrix} {from : ℕ} (v : IsMatrix p V) (y : IsMatrix p Y) (height : Y.height ≡ V.height) (width : V.width ≡ B.width) (inner : Y.width ≡ B.height) (a : AreCombinedBefore p V Y B from) where
  pub combined_more : (i : ℕ) → IsNextInEither V Y from i → IsCombined p (entry V i) (entry Y i) B → AreCombinedBefore p V Y B (i + 1)
  combined_more i n is = record {
    within = omega (arith, n.below);
    before = λ k l. elim (cases_eq k i) [
      | inl same ↦ subst (λ k. IsCombined p (entry V k) (entry Y k) B) (sym same) is
      | inr d ↦ elim (cases_lt k from) [
        | inl b ↦ a.before k b
        | inr b ↦ zero_combined p V Y B k v y width inner (omega (arith, n.below)) (omega (arith, n.below, height)) (n.left k b (omega arith)) (n.right k b (omega arith))
      ]
    ];
  }

  pub combined_all : AreBothZeroFrom V Y from → IsProduct p V Y B
  combined_all z k l = elim (cases_lt k from) [
    | inl b ↦ a.before k b
    | inr b ↦ zero_combined p V Y B k v y width inner l (omega (arith, height)) (z.0 k b l) (z.1 k b (omega (arith, height)))
  ]
