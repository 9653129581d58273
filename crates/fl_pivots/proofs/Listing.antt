-- Where rows begin, listed row by row and sorted.
use Rattle.std.proofs.Common.{ℕ, zero, suc, ◌≡◌, ◌+◌, ◌-◌, ◌<◌, ◌≤◌, Ordering, Less, Equal, Greater, false, List, [], ◌∷◌, ◌++◌, length, slice_index, get_or, inl, inr, ⊎_elim, sym, refl, ap, subst, arith}
use Rattle.std.specs.List.Sorted.{IsPermutation, IsSorted}
use Rattle.std.specs.Ordering.{MatchOrdering, is_lt, nat_cmp, ordering_then}
use Rattle.std.proofs.lemmas.Cmp.{ranked}
use Rattle.std.proofs.lemmas.Bool.{cases_eq, cases_lt}
use Rattle.std.proofs.lemmas.Bool.Decides.{nat_tests}
use Rattle.std.proofs.lemmas.List.Elements.{Contains-append_left, Contains-push, Contains-push_cases}
use Rattle.std.proofs.lemmas.List.Sorted.{Contains-permutation, IsPermutation-sym}
use Rattle.residue_words.specs.Matrix.{Matrix, IsMatrix, row, entry}
use Rattle.residue_words.proofs.Lists.{not_in_nil, place_in}
use Rattle.sparse_rows.specs.Rows.{IsZeroRow, support}
use Rattle.sparse_rows.proofs.Rising.{rising_short}
use Rattle.sparse_rows.proofs.Supports.{at_support, in_support, row_sparse}
use Rattle.pivot_table.specs.History.{row_weight}
use Rattle.fl_pivots.specs.declared.beginning.Beginning.{Beginning}
use Rattle.fl_pivots.specs.Beginnings.{AreBeginnings, AreSorted, IsBeginning, IsNoLater}
use Rattle.pivot_table.specs.Leftmost.{BeginsAt}

module _ {p : ℕ} {A : Matrix} (m : IsMatrix p A) (r : ℕ) (l : r < A.height) where
  pub begins : 0 < row_weight A r → BeginsAt A r (slice_index (support (row A r)) 0)
  begins some = (
    (l, (row_sparse m r l).below 0 some, at_support m r l 0 some),
    (λ j less. elim (cases_eq (entry A r j) 0) [
      | inl z ↦ z
      | inr n ↦ (let t = place_in (support (row A r)) j (in_support m r l j n) in elim (cases_eq t.0 0) [
        | inl e ↦ absurd (omega (arith, ap (slice_index (support (row A r))) e, t.2))
        | inr d ↦ absurd (omega (arith, (row_sparse m r l).rising 0 t.0 (omega arith) t.1, t.2))
      ])
    ]),
  )

  pub begins_nowhere : row_weight A r ≡ 0 → (c : ℕ) → ¬ BeginsAt A r c
  begins_nowhere none c b = let t = place_in (support (row A r)) c (in_support m r l c b.0.2) in absurd (omega (arith, t.1))

  pub weight_small : row_weight A r ≤ A.width
  weight_small = rising_short (support (row A r)) A.width (row_sparse m r l).rising (row_sparse m r l).below

-- a row begins at one column
pub begins_one : (A : Matrix) (r c d : ℕ) → BeginsAt A r c → BeginsAt A r d → c ≡ d
begins_one A r c d a b = elim (cases_lt c d) [
  | inl l ↦ absurd (a.0.2 (b.1 c l))
  | inr ge ↦ elim (cases_eq c d) [ inl e ↦ e | inr n ↦ absurd (b.0.2 (a.1 d (omega arith))) ]
]

-- the list before the first row, and with one row more
pub none_listed : (A : Matrix) → AreBeginnings A 0 []
none_listed A = record { each = λ b m. absurd (not_in_nil b m); every = λ r c l. absurd (omega arith) }

pub listed_more : {A : Matrix} {n : ℕ} {list : List Beginning} → AreBeginnings A n list → (b : Beginning) → IsBeginning A n b → AreBeginnings A (n + 1) (list ++ b ∷ [])
listed_more {A} {n} {list} a b is = record {
  each = λ x m. ⊎_elim (a.each x) (λ e. subst (λ (y : Beginning). IsBeginning A y.row y) e (subst (λ r. IsBeginning A r b) (sym is.row) is)) (Contains-push_cases list b x m);
  every = λ r c l at. elim (cases_lt r n) [
    | inl less ↦ (let t = a.every r c less at in (t.0, Contains-append_left list (b ∷ []) t.0 t.1, t.2))
    | inr ge ↦ (b, Contains-push list b, omega (arith, is.row))
  ];
}

-- rows without an entry are passed
pub listed_passes : {p : ℕ} {A : Matrix} {n i : ℕ} {list : List Beginning} → IsMatrix p A → AreBeginnings A n list → ((k : ℕ) → n ≤ k → k < i → IsZeroRow A k) → AreBeginnings A i list
listed_passes {p} {A} {n} {i} {list} m a zero' = record {
  each = a.each;
  every = λ r c l at. elim (cases_lt r n) [
    | inl less ↦ a.every r c less at
    | inr ge ↦ absurd (begins_nowhere m r at.0.0 (ap length (zero' r ge l)) c at)
  ];
}

pub listed_moved : {A : Matrix} {n : ℕ} {list moved : List Beginning} → AreBeginnings A n list → IsPermutation list moved → AreBeginnings A n moved
listed_moved {A} {n} {list} {moved} a p = record {
  each = λ b m. a.each b (Contains-permutation moved list b (IsPermutation-sym list moved p) m);
  every = λ r c l at. let t = a.every r c l at in (t.0, Contains-permutation list moved t.0 p t.1, t.2);
}

-- sorted by the order of the fields
then_not_less : (a b : ℕ) (r : Ordering) → is_lt (ordering_then (nat_cmp a b) r) ≡ false → (b ≤ a) × (b ≡ a → is_lt r ≡ false)
then_not_less a b r is = go (nat_cmp a b) (ranked a b (nat_cmp a b) refl) is
  where
    go : (o : Ordering) → MatchOrdering o (a < b) (a ≡ b) (b < a) → is_lt (ordering_then o r) ≡ false → (b ≤ a) × (b ≡ a → is_lt r ≡ false)
    go Less m e = absurd (cc)
    go Equal m e = (omega (arith, m), (λ s. e))
    go Greater m e = (omega (arith, m), (λ s. absurd (omega (arith, m))))

last_not_less : (a b : ℕ) → is_lt (nat_cmp a b) ≡ false → b ≤ a
last_not_less a b is = grind (arith, nat_tests)

no_later : (x y : Beginning) → is_lt (ordering_then (nat_cmp y.column x.column) (ordering_then (nat_cmp y.weight x.weight) (nat_cmp y.row x.row))) ≡ false → IsNoLater x y
no_later x y is =
    let t = then_not_less y.column x.column (ordering_then (nat_cmp y.weight x.weight) (nat_cmp y.row x.row)) is in
    let u = λ (e : x.column ≡ y.column). then_not_less y.weight x.weight (nat_cmp y.row x.row) (t.1 e) in
    record { column = t.0; weight = λ e. (u e).0; row = λ e f. last_not_less y.row x.row ((u e).1 f) }

itself : (x : Beginning) → IsNoLater x x
itself x = record { column = omega arith; weight = λ e. omega arith; row = λ e f. omega arith }

further : (x y z : Beginning) → IsNoLater x y → IsNoLater y z → IsNoLater x z
further x y z a b = record {
  column = omega (arith, a.column, b.column);
  weight = λ e.
      let xy : x.column ≡ y.column = omega (arith, a.column, b.column) in
      let yz : y.column ≡ z.column = omega arith in
      omega (arith, a.weight xy, b.weight yz);
  row = λ e f.
      let xy : x.column ≡ y.column = omega (arith, a.column, b.column) in
      let yz : y.column ≡ z.column = omega arith in
      let xyw : x.weight ≡ y.weight = omega (arith, a.weight xy, b.weight yz) in
      let yzw : y.weight ≡ z.weight = omega arith in
      omega (arith, a.row xy xyw, b.row yz yzw);
}

abbrev by_fields : Beginning → Beginning → Ordering
by_fields x y = ordering_then (nat_cmp x.column y.column) (ordering_then (nat_cmp x.weight y.weight) (nat_cmp x.row y.row))

pub sorted_of : (list : List Beginning) → IsSorted by_fields list → AreSorted list
sorted_of list is i j d le l = go (j - i) j (omega arith) l
  where
    go : (k j : ℕ) → j ≡ i + k → j < length list → IsNoLater (get_or list i d) (get_or list j d)
    go zero j e l = (let same : i ≡ j = omega arith in subst (λ t. IsNoLater (get_or list i d) (get_or list t d)) same (itself (get_or list i d)))
    go (suc k) j e l =
        let same : i + k + 1 ≡ j = omega arith in
        let one = no_later (get_or list (i + k) d) (get_or list (i + k + 1) d) (is (i + k) d (omega arith) (omega arith)) in
        subst (λ t. IsNoLater (get_or list i d) (get_or list t d)) same (further _ _ _ (go k (i + k) refl (omega arith)) one)
