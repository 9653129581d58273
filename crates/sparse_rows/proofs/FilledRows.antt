-- Rows with an entry, rows of zeros, and the entries row by row.
use Rattle.std.proofs.Common.{ℕ, zero, suc, Option, None, Some, ◌≡◌, ◌≢◌, ◌+◌, ◌-◌, ◌<◌, ◌≤◌, ◌⊎◌, inl, inr, List, [], ◌∷◌, ◌++◌, length, map, replicate, slice_index, sym, refl, ap, ap₂, subst, ◌∙◌, arith}
use Rattle.std.specs.List.{All, Contains, flat_map, range_with_len}
use Rattle.std.proofs.lemmas.Bool.{cases_eq, cases_lt}
use Rattle.std.proofs.lemmas.List.{append-nil, append_assoc, flat_map_more, get_or_append_left, get_or_push, length_push, map-id, map_push, replicate_more}
use Rattle.std.proofs.lemmas.List.Elements.{All-push}
use Rattle.std.proofs.lemmas.List.FromFn.{map-range_with_len_more}
use Rattle.std.proofs.lemmas.List.Edits.{get_or-between}
use Rattle.residue_words.specs.Matrix.{IsMatrix, Matrix, entry, row, zeros}
use Rattle.residue_words.proofs.Vectors.{at_zeros}
use Rattle.column_lists.specs.Columns.{AreOccurring}
use Rattle.sparse_rows.specs.Placed.{IsFirstFilled}
use Rattle.sparse_rows.specs.Rows.{AreFilled, AreOccupied, AreWeights, AreZeroFrom, IsFilled, IsNextFilled, IsZeroRow, nonzeros, row_triples, support, triples_of, with_zeros}
use Rattle.column_lists.specs.Numbers.{AreRising}
use Rattle.sparse_rows.specs.Stored.{IsSparse, IsStored, entry_at, spread, stored_matrix, stored_row, with_row}
use Rattle.column_lists.specs.Parts.{part}
use Rattle.sparse_rows.proofs.Loops.{beside_more, beside_row, length_zeros, sized}
use Rattle.column_lists.proofs.Occurrences.{contained, contains_at, contains_before, contains_last, rising_push}
use Rattle.sparse_rows.proofs.Spread.{at_spread, entry_cover, entry_here, sparse_none, spread_none, spread_support}
use Rattle.column_lists.proofs.Parts.{length_part, starts_below}
use Rattle.sparse_rows.proofs.Stored.{matrix_push, row_stored, stored_push}
use Rattle.sparse_rows.proofs.Transposed.{columns_below}

-- a row is filled or has no entry
pub filled_or_zero : (A : Matrix) (i : ℕ) → IsFilled A i ⊎ IsZeroRow A i
filled_or_zero A i = none (support (row A i))
  where
    none : (cs : List ℕ) → (0 < length cs) ⊎ (cs ≡ [])
    none [] = inr refl
    none (c ∷ cs) = inl (omega arith)

-- a row without an entry is not filled
pub zero_unfilled : (A : Matrix) (i : ℕ) → IsZeroRow A i → IsFilled A i → ⊥
zero_unfilled A i z f = omega (arith, ap length z)

-- what is the first filled row from one row on is so from a later one on, where those between have no entry
pub first_later : (A : Matrix) (from i : ℕ) (next : Option ℕ) → IsFirstFilled A from next → from ≤ i → ((k : ℕ) → from ≤ k → k < i → IsZeroRow A k) → IsFirstFilled A i next
first_later A from i None f l z = λ k a b. f k (omega arith) b
first_later A from i (Some j) f l z = record {
  low = elim (cases_lt j i) [
    | inl b ↦ absurd (zero_unfilled A j (z j f.low b) f.filled)
    | inr b ↦ b
  ];
  below = f.below;
  filled = f.filled;
  between = λ k a b. f.between k (omega arith) b;
}

-- a row without an entry is the zero row
pub zero_row : {p : ℕ} {A : Matrix} → IsMatrix p A → (i : ℕ) → i < A.height → IsZeroRow A i → row A i ≡ zeros A.width
zero_row {p} {A} m i l z =
    sym (spread_support A.width (row A i) (m.each i l).len) ∙ ap (λ cs. spread A.width cs (nonzeros (row A i))) z ∙ spread_none A.width (nonzeros (row A i))

-- each of its entries is 0
pub zero_entry : {p : ℕ} {A : Matrix} → IsMatrix p A → (i j : ℕ) → i < A.height → j < A.width → IsZeroRow A i → entry A i j ≡ 0
zero_entry {p} {A} m i j l b z = ap (λ r. slice_index r j) (zero_row m i l z) ∙ at_zeros A.width j b

-- the filled rows below `from`
pub record IsFilledSoFar (A : Matrix) (from : ℕ) (rows : List ℕ) : Type 0 where
  pub within : from ≤ A.height
  pub rising : AreRising rows
  pub below : (k : ℕ) → k < length rows → slice_index rows k < from
  pub filled : (k : ℕ) → k < length rows → IsFilled A (slice_index rows k)
  pub all : (i : ℕ) → i < from → IsFilled A i → Contains rows i

-- none below 0
pub filled_none : (A : Matrix) → IsFilledSoFar A 0 []
filled_none A = record {
  within = omega arith;
  rising = λ k t a b. absurd (omega arith);
  below = λ k l. absurd (omega arith);
  filled = λ k l. absurd (omega arith);
  all = λ i l f. absurd (omega arith);
}

-- the next one
pub filled_more : (A : Matrix) (from i : ℕ) (rows : List ℕ) → IsFilledSoFar A from rows → IsNextFilled A from i → IsFilledSoFar A (i + 1) (rows ++ i ∷ [])
filled_more A from i rows h next = record {
  within = omega (arith, next.below);
  rising = rising_push rows i h.rising (λ k l. omega (arith, h.below k l, next.low));
  below = λ k l. elim (cases_lt k (length rows)) [
    | inl s ↦ omega (arith, get_or_append_left rows (i ∷ []) 0 k s, h.below k s, next.low)
    | inr s ↦ omega (arith, last k l s)
  ];
  filled = λ k l. elim (cases_lt k (length rows)) [
    | inl s ↦ subst (IsFilled A) (sym (get_or_append_left rows (i ∷ []) 0 k s)) (h.filled k s)
    | inr s ↦ subst (IsFilled A) (sym (last k l s)) next.filled
  ];
  all = λ t l f. elim (cases_lt t from) [
    | inl s ↦ contains_before rows t i (h.all t s f)
    | inr s ↦ elim (cases_eq i t) [
      | inl e ↦ subst (Contains (rows ++ i ∷ [])) e (contains_last rows i)
      | inr d ↦ absurd (zero_unfilled A t (next.between t s (omega arith)) f)
    ]
  ];
}
  where
    last : (k : ℕ) → k < length (rows ++ i ∷ []) → length rows ≤ k → slice_index (rows ++ i ∷ []) k ≡ i
    last k l s = get_or_push rows i 0 k (omega (arith, length_push rows i))

-- and all
pub filled_all : (A : Matrix) (from : ℕ) (rows : List ℕ) → IsFilledSoFar A from rows → AreZeroFrom A from → AreFilled A rows
filled_all A from rows h z = record {
  rising = h.rising;
  below = λ k l. omega (arith, h.below k l, h.within);
  filled = h.filled;
  all = λ i l f. elim (cases_lt i from) [
    | inl s ↦ h.all i s f
    | inr s ↦ absurd (zero_unfilled A i (z i s l) f)
  ];
}

-- the filled rows below `from`, each behind how many entries it has
pub record AreWeightsSoFar (A : Matrix) (from : ℕ) (weights : List (ℕ × ℕ)) : Type 0 where
  pub filled : IsFilledSoFar A from (map (λ w. w.1) weights)
  pub entries : All (λ w. w.0 ≡ length (support (row A w.1))) weights

pub weights_none : (A : Matrix) → AreWeightsSoFar A 0 []
weights_none A = record { filled = filled_none A; entries = λ k d l. absurd (omega arith) }

-- the next one
pub weights_more : (A : Matrix) (from i n : ℕ) (weights : List (ℕ × ℕ)) → AreWeightsSoFar A from weights → IsNextFilled A from i → n ≡ length (support (row A i)) →
    AreWeightsSoFar A (i + 1) (weights ++ (n, i) ∷ [])
weights_more A from i n weights h next e = record {
  filled = subst (IsFilledSoFar A (i + 1)) (sym (map_push (λ (w : ℕ × ℕ). w.1) weights (n, i))) (filled_more A from i (map (λ w. w.1) weights) h.filled next);
  entries = All-push (λ (w : ℕ × ℕ). w.0 ≡ length (support (row A w.1))) weights (n, i) h.entries e;
}

-- which may be the next row
pub weights_here : (A : Matrix) (from n : ℕ) (weights : List (ℕ × ℕ)) → AreWeightsSoFar A from weights → from < A.height → n ≡ length (support (row A from)) → 0 < n →
    AreWeightsSoFar A (from + 1) (weights ++ (n, from) ∷ [])
weights_here A from n weights h l e some =
    weights_more A from from n weights h record { low = omega arith; below = l; filled = omega arith; between = λ k a b. absurd (omega arith) } e

-- or a row that isn't filled
pub weights_skip : (A : Matrix) (from : ℕ) (weights : List (ℕ × ℕ)) → AreWeightsSoFar A from weights → from < A.height → length (support (row A from)) ≡ 0 →
    AreWeightsSoFar A (from + 1) weights
weights_skip A from weights h l e = record {
  filled = record {
    within = omega arith;
    rising = h.filled.rising;
    below = λ k b. omega (arith, h.filled.below k b);
    filled = h.filled.filled;
    all = λ i b f. elim (cases_eq i from) [
      | inl q ↦ absurd (omega (arith, f, e, ap (λ t. length (support (row A t))) q))
      | inr d ↦ h.filled.all i (omega arith) f
    ];
  };
  entries = h.entries;
}

-- and all
pub weights_all : (A : Matrix) (from : ℕ) (weights : List (ℕ × ℕ)) → AreWeightsSoFar A from weights → AreZeroFrom A from → AreWeights A weights
weights_all A from weights h z = record { filled = filled_all A from (map (λ w. w.1) weights) h.filled z; entries = h.entries }

-- the entries of the rows below n
abbrev pub triples_until : Matrix → ℕ → List (ℕ × ℕ × ℕ)
triples_until A n = flat_map (λ i. row_triples i (support (row A i)) (nonzeros (row A i))) (range_with_len 0 n)

-- one row more
pub triples_more : (A : Matrix) (n : ℕ) → triples_until A n ++ row_triples n (support (row A n)) (nonzeros (row A n)) ≡ triples_until A (n + 1)
triples_more A n =
    let f : ℕ → List (ℕ × ℕ × ℕ) = λ i. row_triples i (support (row A i)) (nonzeros (row A i)) in
    flat_map_more f [] (range_with_len 0 n) n ∙ ap (flat_map f) (sym (range_more n))
  where
    range_more : (n : ℕ) → range_with_len 0 (n + 1) ≡ range_with_len 0 n ++ n ∷ []
    range_more n = sym (map-id (range_with_len 0 (n + 1))) ∙ map-range_with_len_more (λ i. i) 0 n n (omega arith) ∙ ap (λ xs. xs ++ n ∷ []) (map-id (range_with_len 0 n))

-- rows without an entry add none
pub triples_skip : (A : Matrix) (from d : ℕ) → ((k : ℕ) → from ≤ k → k < from + d → IsZeroRow A k) → triples_until A (from + d) ≡ triples_until A from
triples_skip A from zero z = ap (triples_until A) (let e : from + zero ≡ from = omega arith in e)
triples_skip A from (suc d) z =
    let n : ℕ = from + d in
    ap (triples_until A) (let e : from + suc d ≡ n + 1 = omega arith in e) ∙ sym (triples_more A n)
    ∙ ap (λ cs. triples_until A n ++ row_triples n cs (nonzeros (row A n))) (z n (omega arith) (omega arith))
    ∙ append-nil (triples_until A n) ∙ triples_skip A from d (λ k a b. z k a (omega arith))

-- the entries so far
pub record AreTriplesSoFar (A : Matrix) (from : ℕ) (triples : List (ℕ × ℕ × ℕ)) : Type 0 where
  pub within : from ≤ A.height
  pub are : triples ≡ triples_until A from

-- with those of the next filled row
pub listed_more : (A : Matrix) (from i : ℕ) (triples next : List (ℕ × ℕ × ℕ)) → AreTriplesSoFar A from triples → IsNextFilled A from i →
    next ≡ triples ++ row_triples i (support (row A i)) (nonzeros (row A i)) → AreTriplesSoFar A (i + 1) next
listed_more A from i triples next h n e = record {
  within = omega (arith, n.below);
  are =
      let q : from + (i - from) ≡ i = omega (arith, n.low) in
      e ∙ ap (λ ts. ts ++ row_triples i (support (row A i)) (nonzeros (row A i)))
      (h.are ∙ sym (triples_skip A from (i - from) (λ k a b. n.between k a (omega arith))) ∙ ap (triples_until A) q) ∙ triples_more A i;
}

-- and all of them
pub listed_all : (A : Matrix) (from : ℕ) (triples : List (ℕ × ℕ × ℕ)) → AreTriplesSoFar A from triples → AreZeroFrom A from → triples ≡ triples_of A
listed_all A from triples h z =
    let q : from + (A.height - from) ≡ A.height = omega (arith, h.within) in
    h.are ∙ sym (triples_skip A from (A.height - from) (λ k a b. z k a (omega arith))) ∙ ap (triples_until A) q

-- an entry more of a row
pub row_triples_more : (i : ℕ) (cs vs : List ℕ) (c v : ℕ) → length cs ≡ length vs → row_triples i (cs ++ c ∷ []) (vs ++ v ∷ []) ≡ row_triples i cs vs ++ (i, c, v) ∷ []
row_triples_more i [] [] c v e = refl
row_triples_more i [] (w ∷ vs) c v e = absurd (omega arith)
row_triples_more i (b ∷ cs) [] c v e = absurd (omega arith)
row_triples_more i (b ∷ cs) (w ∷ vs) c v e = ap (λ ts. (i, b, w) ∷ ts) (row_triples_more i cs vs c v (omega arith))

-- rows of zeros more are stored by the same start
module _ (p n : ℕ) (cs vs : List ℕ) where
  one_more : (starts : List ℕ) → IsStored p n starts cs vs → length starts ≤ 2147483648 →
      IsStored p n (starts ++ length cs ∷ []) cs vs × (stored_matrix n (starts ++ length cs ∷ []) cs vs ≡ with_row (stored_matrix n starts cs vs) (zeros n))
  one_more starts s small =
      let columns : cs ++ [] ≡ cs = append-nil cs in
      let values : vs ++ [] ≡ vs = append-nil vs in (
        subst (λ t. IsStored p n (starts ++ length t ∷ []) t vs) columns (subst (IsStored p n (starts ++ length (cs ++ []) ∷ []) (cs ++ [])) values (stored_push p n starts cs vs s [] [] (sparse_none p n) small)),
        sym (ap₂ (λ t u. stored_matrix n (starts ++ length t ∷ []) t u) columns values) ∙ matrix_push p n starts cs vs s [] [] (sparse_none p n)
            ∙ ap (with_row (stored_matrix n starts cs vs)) (spread_none n []),
      )

  pub stored_zeros : (count : ℕ) (starts : List ℕ) → IsStored p n starts cs vs → length starts + count ≤ 2147483649 →
      IsStored p n (starts ++ replicate count (length cs)) cs vs × (stored_matrix n (starts ++ replicate count (length cs)) cs vs ≡ with_zeros (stored_matrix n starts cs vs) count)
  stored_zeros zero starts s small =
      let A : Matrix = stored_matrix n starts cs vs in
      rw (append-nil starts) (s, ap₂ (λ h rs. sized h n rs) (let e : A.height ≡ A.height + zero = omega arith in e) (sym (append-nil A.rows)))
  stored_zeros (suc count) starts s small =
      let A : Matrix = stored_matrix n starts cs vs in
      let e : ℕ = length cs in
      let one = one_more starts s (omega arith) in
      let rest = stored_zeros count (starts ++ e ∷ []) one.0 (omega (arith, length_push starts e)) in
      let long : starts ++ e ∷ [] ++ replicate count e ≡ starts ++ replicate (suc count) e = append_assoc starts (e ∷ []) (replicate count e) in (
        subst (λ t. IsStored p n t cs vs) long rest.0,
        sym (ap (λ t. stored_matrix n t cs vs) long) ∙ rest.1 ∙ ap (λ M. with_zeros M count) one.1
            ∙ ap₂ (λ h rs. sized h n rs) (let q : A.height + 1 + count ≡ A.height + suc count = omega arith in q) (append_assoc A.rows (zeros n ∷ []) (replicate count (zeros n))),
      )

-- each stored entry belongs to a row
row_of : {p n : ℕ} {starts cs vs : List ℕ} → IsStored p n starts cs vs → (r : ℕ) → r ≤ length starts - 1 → (t : ℕ) → t < slice_index starts r →
    (i : ℕ) × (i < r) × (slice_index starts i ≤ t) × (t < slice_index starts (i + 1))
row_of {p} {n} {starts} {cs} {vs} s zero l t b = absurd (omega (arith, s.parts.first))
row_of {p} {n} {starts} {cs} {vs} s (suc r) l t b =
    elim (cases_lt t (slice_index starts r)) [
      | inl e ↦ let w = row_of s r (omega arith) t e in (w.0, omega (arith, w.1), w.2, w.3)
      | inr e ↦
          let next : slice_index starts (suc r) ≡ slice_index starts (r + 1) = ap (slice_index starts) (let q : suc r ≡ r + 1 = omega arith in q) in
          (r, omega arith, e, omega arith)
    ]

-- and so does its column
column_filled : {p n : ℕ} {starts cs vs : List ℕ} → IsStored p n starts cs vs → (t : ℕ) → t < length cs →
    (i : ℕ) × (i < length starts - 1) × (entry (stored_matrix n starts cs vs) i (slice_index cs t) ≢ 0)
unfolding part stored_row
column_filled {p} {n} {starts} {cs} {vs} s t l =
    let w = row_of s (length starts - 1) (omega arith) t (omega (arith, s.parts.last)) in
    let i : ℕ = w.0 in
    let a : ℕ = slice_index starts i in
    let at : a + (t - a) ≡ t = omega (arith, w.2) in
    let q : ℕ = t - a in
    let row_is : IsSparse p n (part starts cs i) (part starts vs i) = s.each i w.1 in
    let within : q < length (part starts cs i) = omega (arith, length_part cs s.parts i w.1, w.2, w.3) in
    let here : slice_index (part starts cs i) q ≡ slice_index cs t = get_or-between cs a (slice_index starts (i + 1)) q 0 (omega (arith, w.2, w.3)) ∙ ap (slice_index cs) at in
    let value : entry (stored_matrix n starts cs vs) i (slice_index cs t) ≡ slice_index (part starts vs i) q =
    ap (λ r. slice_index r (slice_index cs t)) (row_stored n starts cs vs i w.1) ∙ at_spread n (part starts cs i) (part starts vs i) (slice_index cs t) (columns_below s t l)
    ∙ ap (entry_at (part starts cs i) (part starts vs i)) (sym here) ∙ entry_here (part starts cs i) (part starts vs i) row_is.long row_is.rising q within in
    (i, w.1, λ e. omega (arith, row_is.positive q (omega (arith, row_is.long)), value))

-- the stored columns that occur are those in which a row has an entry
pub occupied_stored : {p n : ℕ} {starts cs vs : List ℕ} → IsStored p n starts cs vs → (found : List ℕ) → AreOccurring cs found → AreOccupied (stored_matrix n starts cs vs) found
unfolding part stored_row
occupied_stored {p} {n} {starts} {cs} {vs} s found o =
    let in_list : (k : ℕ) → k < length found → (t : ℕ) × (t < length cs) × (slice_index cs t ≡ slice_index found k) = λ k l. contained cs (slice_index found k) (o.inside k l) in
    record {
      enough = record {
        rising = o.rising;
        below = λ k l. let w = in_list k l in omega (arith, columns_below s w.0 w.1, w.2);
        all = λ i j l b d.
            let cut : entry (stored_matrix n starts cs vs) i j ≡ entry_at (part starts cs i) (part starts vs i) j =
            ap (λ r. slice_index r j) (row_stored n starts cs vs i l) ∙ at_spread n (part starts cs i) (part starts vs i) j b in
            elim (entry_cover (part starts cs i) (part starts vs i) j) [
              | inl z ↦ absurd (d (cut ∙ z))
              | inr w ↦
                  let a : ℕ = slice_index starts i in
                  let long : length (part starts cs i) + a ≡ slice_index starts (i + 1) = length_part cs s.parts i l in
                  let here : slice_index (part starts cs i) w.0 ≡ slice_index cs (a + w.0) = get_or-between cs a (slice_index starts (i + 1)) w.0 0 (omega (arith, w.1)) in
                  o.all j (contains_at cs j (a + w.0) (omega (arith, w.1, starts_below s.parts (i + 1) (omega arith))) (sym here ∙ w.2))
            ];
      };
      occupied = λ k l.
          let w = in_list k l in
          subst (λ j. (i : ℕ) × (i < length starts - 1) × (entry (stored_matrix n starts cs vs) i j ≢ 0)) w.2 (column_filled s w.0 w.1);
    }

-- columns off which all entries are 0 have all stored columns
pub columns_enough : {p n : ℕ} {starts cs vs : List ℕ} → IsStored p n starts cs vs → (columns : List ℕ) →
    ((i j : ℕ) → i < length starts - 1 → j < n → entry (stored_matrix n starts cs vs) i j ≢ 0 → Contains columns j) → (t : ℕ) → t < length cs → Contains columns (slice_index cs t)
columns_enough {p} {n} {starts} {cs} {vs} s columns all t l =
    let w = column_filled s t l in
    all w.0 (slice_index cs t) w.1 (columns_below s t l) w.2

-- the first rows of A and B side by side
abbrev pub first_beside : Matrix → Matrix → ℕ → Matrix
first_beside A B i = sized i (A.width + B.width) (map (λ k. row A k ++ row B k) (range_with_len 0 i))

-- rows of zeros more, where neither has an entry
pub beside_zeros : {p q : ℕ} {A B : Matrix} → IsMatrix p A → IsMatrix q B → A.height ≡ B.height → (i d : ℕ) → i + d ≤ A.height →
    ((k : ℕ) → i ≤ k → k < i + d → IsZeroRow A k) → ((k : ℕ) → i ≤ k → k < i + d → IsZeroRow B k) → with_zeros (first_beside A B i) d ≡ first_beside A B (i + d)
beside_zeros {p} {q} {A} {B} a b same i zero l za zb =
    let M : Matrix = first_beside A B i in
    ap₂ (λ h rs. sized h (A.width + B.width) rs) (let e : i + zero ≡ i = omega arith in e) (append-nil M.rows) ∙ ap (first_beside A B) (let e : i ≡ i + zero = omega arith in e)
beside_zeros {p} {q} {A} {B} a b same i (suc d) l za zb =
    let w : ℕ = A.width + B.width in
    let z : List ℕ = zeros w in
    let M : Matrix = first_beside A B i in
    let k : ℕ = i + d in
    let here : z ≡ row A k ++ row B k =
    zeros_append A.width B.width ∙ ap₂ ◌++◌ (sym (zero_row a k (omega arith) (za k (omega arith) (omega arith)))) (sym (zero_row b k (omega arith) (zb k (omega arith) (omega arith)))) in
    ap₂ (λ h rs. sized h w rs) (let e : i + suc d ≡ i + d + 1 = omega arith in e)
    (ap (λ t. M.rows ++ t) (ap (λ t. replicate t z) (let e : suc d ≡ d + 1 = omega arith in e) ∙ sym (replicate_more d z)) ∙ sym (append_assoc M.rows (replicate d z) (z ∷ [])))
    ∙ ap (λ N. with_row N z) (beside_zeros a b same i d (omega arith) (λ t u v. za t u (omega arith)) (λ t u v. zb t u (omega arith)))
    ∙ beside_more A B (i + d) w z here ∙ ap (first_beside A B) (let e : i + d + 1 ≡ i + suc d = omega arith in e)
  where
    zeros_append : (n m : ℕ) → zeros (n + m) ≡ zeros n ++ zeros m
    zeros_append n m = beside_row (zeros n) (zeros m) (zeros (n + m)) (zeros (n + m)) n m (length_zeros n) (length_zeros m) (length_zeros (n + m))
        (λ j l. at_zeros (n + m) j (omega arith) ∙ sym (at_zeros n j l)) (λ j l. refl) (λ j l. at_zeros (n + m) (n + j) (omega arith) ∙ sym (at_zeros m j l))
