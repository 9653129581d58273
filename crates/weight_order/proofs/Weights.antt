-- How many entries a row has, as a sum; and rows sorted by that.
use Rattle.std.proofs.Common.{ℕ, zero, suc, ◌≡◌, ◌≢◌, ◌+◌, ◌-◌, ◌/◌, ◌^◌, ◌<◌, ◌≤◌, inl, inr, Ordering, Less, Equal, Greater, false, cond, eqb, List, [], ◌∷◌, length, map, slice_index, get_or, sym, refl, ap, subst, ◌∙◌, arith}
use Rattle.std.specs.List.{All, Contains, sum_by}
use Rattle.std.specs.List.Sorted.{IsPermutation, IsSorted}
use Rattle.std.specs.Ordering.{MatchOrdering, is_lt, nat_cmp, ordering_then}
use Rattle.std.proofs.lemmas.Bool.{cases_eq, cond-true, cond-false, eq-eqb, ne_eqb}
use Rattle.std.proofs.lemmas.Cmp.{ranked}
use Rattle.std.proofs.lemmas.List.{get_or-map, length-map}
use Rattle.std.proofs.lemmas.List.Sorted.{All-permutation, IsPermutation-map, sum_by-IsPermutation}
use Rattle.std.proofs.lemmas.List.Sums.{sum_by-cons}
use Rattle.residue_words.specs.Matrix.{Matrix, IsMatrix, entry, row}
use Rattle.residue_words.specs.Residues.{sum_below}
use Rattle.residue_words.proofs.Lists.{place_in}
use Rattle.residue_words.proofs.Sums.{sum_none, sum_support}
use Rattle.sparse_rows.specs.Rows.{AreFilled, AreRising, support, support_from}
use Rattle.weight_order.specs.Keeping.{AreFilledInSomeOrder}
use Rattle.weight_order.specs.Shape.{AreByWeight, ArePlacedWeights, IsRarestFirst}

-- 1 for an entry, and 0 for none
abbrev pub counted : ℕ → ℕ
counted x = cond (eqb x 0) 0 1

-- as many columns as entries
length_support : (k : ℕ) (xs : List ℕ) → length (support_from k xs) ≡ sum_by counted xs
length_support k [] = refl
length_support k (x ∷ xs) = elim (cases_eq x 0) [
  | inl e ↦ omega (
    arith,
    ap length (cond-true (eqb x 0) (support_from (k + 1) xs) (k ∷ support_from (k + 1) xs) (eq-eqb x 0 e)),
    length_support (k + 1) xs,
    sum_by-cons counted x xs,
    cond-true {A = ℕ} (eqb x 0) 0 1 (eq-eqb x 0 e),
  )
  | inr d ↦ omega (
    arith,
    ap length (cond-false (eqb x 0) (support_from (k + 1) xs) (k ∷ support_from (k + 1) xs) (ne_eqb x 0 d)),
    length_support (k + 1) xs,
    sum_by-cons counted x xs,
    cond-false {A = ℕ} (eqb x 0) 0 1 (ne_eqb x 0 d),
  )
]

-- the first term apart
sum_first : (n : ℕ) (f : ℕ → ℕ) → sum_below (suc n) f ≡ f 0 + sum_below n (λ k. f (suc k))
unfolding sum_below
sum_first zero f = omega arith
sum_first (suc n) f = omega (arith, sum_first n f)

-- a sum over a list by its places
sum_of_list : (f : ℕ → ℕ) (xs : List ℕ) → sum_by f xs ≡ sum_below (length xs) (λ k. f (slice_index xs k))
sum_of_list f [] = sym (sum_none (λ k. f (slice_index [] k)))
sum_of_list f (x ∷ xs) = omega (arith, sum_by-cons f x xs, sum_of_list f xs, sum_first (length xs) (λ k. f (slice_index (x ∷ xs) k)))

-- the entries of a row are counted column by column
pub weight_sum : {p : ℕ} {A : Matrix} → IsMatrix p A → (i : ℕ) → i < A.height → length (support (row A i)) ≡ sum_below A.width (λ j. counted (entry A i j))
weight_sum {p} {A} m i l =
    length_support 0 (row A i) ∙ sum_of_list counted (row A i) ∙ ap (λ n. sum_below n (λ j. counted (slice_index (row A i) j))) (m.each i l).len

-- or over these columns alone, in any order
pub picked_sum : (n : ℕ) (v : ℕ → ℕ) (filled order : List ℕ) → AreRising filled → ((k : ℕ) → k < length filled → slice_index filled k < n) →
    ((j : ℕ) → j < n → v j ≢ 0 → Contains filled j) → IsPermutation filled order →
    sum_below (length order) (λ i. counted (v (slice_index order i))) ≡ sum_below n (λ j. counted (v j))
picked_sum n v filled order up below all moved =
    let f : ℕ → ℕ = λ j. counted (v j) in
    sym (sum_of_list f order) ∙ sum_by-IsPermutation f filled order moved ∙ sum_of_list f filled
    ∙ sym (sum_support n (length filled) f (slice_index filled) below up (λ j l. elim (cases_eq (v j) 0) [
      | inl e ↦ inl (cond-true {A = ℕ} (eqb (v j) 0) 0 1 (eq-eqb (v j) 0 e))
      | inr d ↦ inr (place_in filled j (all j l d))
    ]))

-- weights as they are compared
abbrev pub by_fields : ℕ × ℕ → ℕ × ℕ → Ordering
by_fields x y = ordering_then (nat_cmp x.0 y.0) (nat_cmp x.1 y.1)

no_heavier : (a b : ℕ) (r : Ordering) → is_lt (ordering_then (nat_cmp b a) r) ≡ false → a ≤ b
no_heavier a b r is = go (nat_cmp b a) (ranked b a (nat_cmp b a) refl) is
  where
    go : (o : Ordering) → MatchOrdering o (b < a) (b ≡ a) (a < b) → is_lt (ordering_then o r) ≡ false → a ≤ b
    go Less m e = absurd (cc)
    go Equal m e = omega (arith, m)
    go Greater m e = omega (arith, m)

abbrev no_weight : ℕ × ℕ
no_weight = (0, 0)

pub weights_rise : (list : List (ℕ × ℕ)) → IsSorted by_fields list → (k n : ℕ) → k + n < length list → (get_or list k no_weight).0 ≤ (get_or list (k + n) no_weight).0
weights_rise list is k zero l = let same : k + zero ≡ k = omega arith in omega (arith, ap (λ t. (get_or list t no_weight).0) same)
weights_rise list is k (suc n) l =
    let same : k + suc n ≡ k + n + 1 = omega arith in
    let x : ℕ × ℕ = get_or list (k + n) no_weight in
    let y : ℕ × ℕ = get_or list (k + n + 1) no_weight in
    omega (
      arith,
      weights_rise list is k n (omega arith),
      no_heavier x.0 y.0 (nat_cmp y.1 x.1) (is (k + n) no_weight (omega arith) (omega arith)),
      ap (λ t. (get_or list t no_weight).0) same,
    )

-- so the rows of a list sorted by what rises with the weights are by weight
by_weight_of : (A : Matrix) (weight : ℕ → ℕ) → ((x y : ℕ) → x ≤ y → weight x ≤ weight y) → (list : List (ℕ × ℕ)) → IsSorted by_fields list →
    All (λ w. weight w.0 ≡ length (support (row A w.1))) list → AreByWeight A (map (λ w. w.1) list)
by_weight_of A weight rises list is weights k t less l =
    let inside : t < length list = omega (arith, length-map list (λ (w : ℕ × ℕ). w.1)) in
    let at : (s : ℕ) → s < length list → length (support (row A (slice_index (map (λ (w : ℕ × ℕ). w.1) list) s))) ≡ weight (get_or list s no_weight).0 =
    λ s b. ap (λ i. length (support (row A i))) (get_or-map (λ (w : ℕ × ℕ). w.1) list s no_weight 0 b) ∙ sym (weights s no_weight b) in
    let same : k + (t - k) ≡ t = omega arith in
    omega (
      arith,
      at k (omega arith),
      at t inside,
      rises (get_or list k no_weight).0 (get_or list (k + (t - k)) no_weight).0 (weights_rise list is k (t - k) (omega arith)),
      ap (λ s. weight (get_or list s no_weight).0) same,
    )

-- and the filled ones
pub rarest_of : {weights sorted : List (ℕ × ℕ)} {order : List ℕ} → IsPermutation weights sorted → IsSorted by_fields sorted → order ≡ map (λ w. w.1) sorted → IsRarestFirst weights order
rarest_of {weights} {sorted} {order} moved is e A h = subst (λ xs. AreFilledInSomeOrder A xs × AreByWeight A xs) (sym e) (
  (map (λ w. w.1) weights, h.filled, IsPermutation-map (λ (w : ℕ × ℕ). w.1) weights sorted moved),
  by_weight_of A (λ x. x) (λ x y l. l) sorted is (All-permutation (λ (w : ℕ × ℕ). w.0 ≡ length (support (row A w.1))) weights sorted moved h.entries),
)

-- weights that stand in the upper halves of words
placed_weights : (A : Matrix) (weights placed : List (ℕ × ℕ)) → ArePlacedWeights weights placed → All (λ w. w.0 ≡ length (support (row A w.1))) weights →
    All (λ w. w.0 / 2 ^ 32 ≡ length (support (row A w.1))) placed
placed_weights A weights placed same all k d l =
    let many : length placed ≡ length weights = sym (length-map placed (λ (w : ℕ × ℕ). w.1)) ∙ ap length same.numbers ∙ length-map weights (λ (w : ℕ × ℕ). w.1) in
    let inside : k < length weights = omega (arith, many) in
    let weight : (get_or placed k d).0 / 2 ^ 32 ≡ (get_or weights k d).0 =
    sym (get_or-map (λ (w : ℕ × ℕ). w.0 / 2 ^ 32) placed k d 0 l) ∙ ap (λ xs. get_or xs k 0) same.begun ∙ get_or-map (λ (w : ℕ × ℕ). w.0) weights k d 0 inside in
    let number : (get_or placed k d).1 ≡ (get_or weights k d).1 =
    sym (get_or-map (λ (w : ℕ × ℕ). w.1) placed k d 0 l) ∙ ap (λ xs. get_or xs k 0) same.numbers ∙ get_or-map (λ (w : ℕ × ℕ). w.1) weights k d 0 inside in
    weight ∙ all k d inside ∙ ap (λ i. length (support (row A i))) (sym number)

-- and the filled ones
pub rarest_of_placed : {weights placed sorted : List (ℕ × ℕ)} {order : List ℕ} → ArePlacedWeights weights placed → IsPermutation placed sorted → IsSorted by_fields sorted → order ≡ map (λ w. w.1) sorted → IsRarestFirst weights order
rarest_of_placed {weights} {placed} {sorted} {order} same moved is e A h = subst (λ xs. AreFilledInSomeOrder A xs × AreByWeight A xs) (sym e) (
  (map (λ w. w.1) placed, subst (AreFilled A) (sym same.numbers) h.filled, IsPermutation-map (λ (w : ℕ × ℕ). w.1) placed sorted moved),
  by_weight_of A (λ x. x / 2 ^ 32) (λ x y l. omega (arith, l)) sorted is (All-permutation (λ (w : ℕ × ℕ). w.0 / 2 ^ 32 ≡ length (support (row A w.1))) placed sorted moved (placed_weights A weights placed same h.entries)),
)
