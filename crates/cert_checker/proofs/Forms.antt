-- Forms by what is checked of them.
use Rattle.std.proofs.Common.{ℕ, ◌≡◌, ◌+◌, ◌*◌, ◌%◌, ◌<◌, ◌↔◌, List, [], ◌∷◌, ◌++◌, zero, suc, length, map, replicate, slice_index, sym, refl, ap, ap₂, subst, ◌∙◌, arith, add-one, zero-add}
use Rattle.std.specs.List.{range_with_len}
use Rattle.std.proofs.lemmas.List.{get_or-map, replicate_more}
use Rattle.std.proofs.lemmas.List.FromFn.{map-range_with_len_more}
use Rattle.residue_words.specs.Matrix.{Matrix, IsMatrix, IsVector, combine, entry, list_of, row, zeros}
use Rattle.residue_words.specs.Residues.{sum_below}
use Rattle.residue_words.proofs.Sums.{sum_equal}
use Rattle.residue_words.proofs.Vectors.{at_apply, at_combine, at_list_of, at_zeros, entry_matrix_of, length_list_of, list_equal}
use Rattle.row_space.specs.Echelon.{HasLeads}
use Rattle.row_space.specs.Factors.{ShowsKernel, ShowsRref}
use Rattle.row_space.specs.Kernel.{HasEnds}
use Rattle.sparse_rows.specs.Rows.{AreBelow, matrix_by, selected, transposed, with_zeros}
use Rattle.cert_checker.specs.declared.outer_ones.Side.{Side}
use Rattle.cert_checker.specs.declared.outer_ones.Side.TheVariants.{Left, Right}
use Rattle.cert_checker.specs.OuterOnes.{AreAlone, AreOuterOnes}
use Rattle.cert_checker.specs.Product.{IsCombined, IsProduct, combined_at}
use Rattle.cert_checker.proofs.Outer.{outer_unique}

-- a matrix has one list of outer ones at most
pub ones_unique : (side : Side) (E : Matrix) (a b : List ℕ) → AreOuterOnes side E a → AreOuterOnes side E b → a ≡ b
ones_unique side E a b m n = list_equal E.height a b m.len n.len (λ k l. outer_unique side E.width (entry E k) _ _ (m.each k l) (n.each k l))

pub ones_below : {side : Side} {E : Matrix} {a : List ℕ} → AreOuterOnes side E a → AreBelow E.width a
ones_below m k l = (m.each k (omega (arith, m.len))).inside

-- those that stand alone are leads, or ends
pub leads_made : (E : Matrix) (a : List ℕ) → AreOuterOnes Left E a → AreAlone E a → HasLeads E a
leads_made E a m al = (
  m.len,
  record {
    inside = λ k l. (m.each k l).inside;
    one = λ k l. (m.each k l).one;
    past = λ k j l b s. (m.each k l).outside j b s;
    rising = m.rising;
    alone = λ k t l b d. al t k b (omega (arith, m.len)) d;
  },
)

pub leads_ones : (E : Matrix) (a : List ℕ) → HasLeads E a → AreOuterOnes Left E a
leads_ones E a h = record {
  len = h.0;
  each = λ k l. record { inside = h.1.inside k l; one = h.1.one k l; outside = λ j b s. h.1.past k j l b s };
  rising = h.1.rising;
}

pub ends_made : (E : Matrix) (a : List ℕ) → AreOuterOnes Right E a → AreAlone E a → HasEnds E a
ends_made E a m al = (
  m.len,
  record {
    inside = λ k l. (m.each k l).inside;
    one = λ k l. (m.each k l).one;
    past = λ k j l b s. (m.each k l).outside j b s;
    rising = m.rising;
    alone = λ k t l b d. al t k b (omega (arith, m.len)) d;
  },
)

pub ends_ones : (E : Matrix) (a : List ℕ) → HasEnds E a → AreOuterOnes Right E a
ends_ones E a h = record {
  len = h.0;
  each = λ k l. record { inside = h.1.inside k l; one = h.1.one k l; outside = λ j b s. h.1.past k j l b s };
  rising = h.1.rising;
}

-- the columns of U at the leads, in order
abbrev pub columns_at : Matrix → List ℕ → Matrix
columns_at U leads = transposed (selected (transposed U) leads)

module _ (p : ℕ) (U E : Matrix) (leads : List ℕ) (u : IsMatrix p U) (m : IsMatrix p E) (ones : AreOuterOnes Left E leads) (height : E.height ≡ U.height) (width : E.width ≡ U.width) where
  at_lead : (k t : ℕ) → k < U.height → t < length leads → entry (columns_at U leads) k t ≡ entry U k (slice_index leads t)
  at_lead k t lk lt =
      entry_matrix_of U.height (length leads) (λ i j. entry (selected (transposed U) leads) j i) k t lk lt
      ∙ ap (λ v. slice_index v k) (row_selected t lt)
      ∙ entry_matrix_of U.width U.height (λ i j. entry U j i) (slice_index leads t) k (omega (arith, ones_below ones t lt, width)) lk
    where
      row_selected : (t : ℕ) → t < length leads → row (selected (transposed U) leads) t ≡ row (transposed U) (slice_index leads t)
      row_selected t lt = get_or-map (row (transposed U)) leads t 0 [] lt

  -- a row of U is the combination of E's rows with its entries at the leads
  led_row : (k : ℕ) → k < U.height → IsCombined p (entry U k) (entry (columns_at U leads) k) E ↔ (row U k ≡ combine p (list_of E.height (λ t. entry U k (slice_index leads t))) E)
  led_row k l =
      let c : List ℕ = list_of E.height (λ t. entry U k (slice_index leads t)) in
      let same : (j : ℕ) → combined_at (entry (columns_at U leads) k) E j ≡ combined_at (slice_index c) E j = λ j.
      sum_equal E.height _ _ (λ t b. ap (λ x. x * entry E t j) (at_lead k t l (omega (arith, ones.len)) ∙ sym (at_list_of E.height (λ t. entry U k (slice_index leads t)) t b))) in (
        λ h. list_equal E.width (row U k) _ (omega (arith, (u.each k l).len)) (length_list_of E.width _) (λ j b. h j b ∙ ap (λ s. s % p) (same j) ∙ sym (at_combine p c E j b)),
        λ e j b. ap (λ w. slice_index w j) e ∙ at_combine p c E j b ∙ ap (λ s. s % p) (sym (same j)),
      )

  pub rref_made : AreAlone E leads → IsProduct p U (columns_at U leads) E → ShowsRref p U E
  rref_made al product = record {
    matrix = m;
    height = height;
    width = width;
    form = (leads, leads_made E leads ones al, λ k l. (led_row k l).0 (product k l));
  }

  pub rref_alone : ShowsRref p U E → AreAlone E leads
  rref_alone s t k lt lk d =
      let same : s.form.0 ≡ leads = ones_unique Left E s.form.0 leads (leads_ones E s.form.0 s.form.1) ones in
      let h : HasLeads E leads = subst (HasLeads E) same s.form.1 in
      h.1.alone k t (omega (arith, h.0)) lt d

  pub rref_product : ShowsRref p U E → IsProduct p U (columns_at U leads) E
  rref_product s k l =
      let same : s.form.0 ≡ leads = ones_unique Left E s.form.0 leads (leads_ones E s.form.0 s.form.1) ones in
      (led_row k l).1 (subst (λ ls. row U k ≡ combine p (list_of E.height (λ t. entry U k (slice_index ls t))) E) same (s.form.2 k l))

pub rref_no_leads : (p : ℕ) (U E : Matrix) → ((a : List ℕ) → ¬ AreOuterOnes Left E a) → ¬ ShowsRref p U E
rref_no_leads p U E none s = none s.form.0 (leads_ones E s.form.0 s.form.1)

pub kernel_no_ends : (p : ℕ) (A : Matrix) (r : ℕ) (K : Matrix) → ((a : List ℕ) → ¬ AreOuterOnes Right K a) → ¬ ShowsKernel p A r K
kernel_no_ends p A r K none s = none s.form.0 (ends_ones K s.form.0 s.form.1)

-- a matrix of rows of zeros has the entry 0 everywhere
zero_rows : (n : ℕ) (z : List ℕ) → replicate n z ≡ map (λ i. z) (range_with_len 0 n)
zero_rows zero z = refl
zero_rows (suc n) z = subst (λ m. replicate m z ≡ map (λ i. z) (range_with_len 0 m)) (add-one n) (sym (replicate_more n z) ∙ ap (λ xs. xs ++ z ∷ []) (zero_rows n z) ∙ sym (map-range_with_len_more (λ i. z) 0 n n (omega arith)))

pub zeros_by : (h w : ℕ) → with_zeros (record { height = 0; width = w; rows = [] }) h ≡ matrix_by h w (λ i j. 0)
zeros_by h w = ap₂ (λ (h : ℕ) (rows : List (List ℕ)). record { height = h; width = w; rows = rows }) (zero-add h) (zero_rows h (zeros w))

-- A times each row of K is 0 where A times K transposed is
module _ (p : ℕ) (A K : Matrix) (r : ℕ) (ends : List ℕ) (m : IsMatrix p K) (ones : AreOuterOnes Right K ends) (width : K.width ≡ A.width) where
  abbrev Z : Matrix
  Z = matrix_by A.height K.height (λ i j. 0)

  nothing : (i k : ℕ) → i < A.height → k < K.height → entry Z i k ≡ 0
  nothing i k li lk = entry_matrix_of A.height K.height (λ i j. 0) i k li lk

  null_sum : (i k : ℕ) → k < K.height → combined_at (entry A i) (transposed K) k ≡ sum_below A.width (λ j. entry A i j * entry K k j)
  null_sum i k l =
      sum_equal K.width _ _ (λ c b. ap (λ x. entry A i c * x) (entry_matrix_of K.width K.height (λ i j. entry K j i) c k b l))
      ∙ ap (λ n. sum_below n (λ j. entry A i j * entry K k j)) width

  pub kernel_made : K.height + r ≡ A.width → AreAlone K ends → IsProduct p Z A (transposed K) → ShowsKernel p A r K
  kernel_made high al product = record {
    matrix = m;
    height = high;
    width = width;
    form = (ends, ends_made K ends ones al);
    null = λ k l. (subst (λ n. IsVector p n (row K k)) width (m.each k l), list_equal A.height _ _ (length_list_of A.height _) (length_list_of A.height _) (λ i b. at_apply p A (row K k) i b ∙ ap (λ x. x % p) (sym (null_sum i k l)) ∙ sym (product i b k l) ∙ nothing i k b l ∙ sym (at_zeros A.height i b)));
  }

  pub kernel_alone : ShowsKernel p A r K → AreAlone K ends
  kernel_alone s t k lt lk d =
      let is : s.form.0 ≡ ends = ones_unique Right K s.form.0 ends (ends_ones K s.form.0 s.form.1) ones in
      let h : HasEnds K ends = subst (HasEnds K) is s.form.1 in
      h.1.alone k t (omega (arith, h.0)) lt d

  pub kernel_product : ShowsKernel p A r K → IsProduct p Z A (transposed K)
  kernel_product s i li k lk =
      nothing i k li lk ∙ sym (at_zeros A.height i li) ∙ ap (λ w. slice_index w i) (sym (s.null k lk).1) ∙ at_apply p A (row K k) i li ∙ ap (λ x. x % p) (sym (null_sum i k lk))
