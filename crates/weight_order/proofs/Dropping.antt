-- Rows that are multiples of others can go.
use Rattle.std.proofs.Common.{ℕ, suc, ◌≡◌, ◌+◌, ◌*◌, ◌%◌, ◌<◌, ◌≤◌, All, inl, inr, ⊎_elim, List, [], ◌∷◌, ◌++◌, length, slice_index, take, sym, refl, ap, subst, ◌∙◌, arith, mod-eq_of_lt, mul-one, one-mul, zero-mul}
use Rattle.std.specs.List.{range_with_len}
use Rattle.std.proofs.lemmas.Bool.{cases_eq}
use Rattle.std.proofs.lemmas.List.{get_or-take, get_or_append_left, get_or_default, get_or_push, length-take, length_push, take_more}
use Rattle.std.proofs.lemmas.List.FromFn.{get_or-range_with_len, length-range_with_len}
use Rattle.residue_words.specs.Matrix.{Matrix, IsCombination, IsMatrix, IsVector, entry, row}
use Rattle.residue_words.specs.Residues.{IsPrime}
use Rattle.residue_words.proofs.Lists.{place_in}
use Rattle.residue_words.proofs.Residues.{inverse, mul_same}
use Rattle.residue_words.proofs.Vectors.{at_mix, combination_mix, length_list_of, list_equal, mix, row_combination}
use Rattle.row_space.specs.Echelon.{SameSpan}
use Rattle.row_space.proofs.Spans.{same_span_of_rows, same_span_turned}
use Rattle.sparse_rows.specs.Rows.{AreFilled, ResidueMatrix, nonzeros, selected, support}
use Rattle.sparse_rows.specs.Stored.{entry_at}
use Rattle.sparse_rows.proofs.FilledRows.{filled_or_zero, zero_row}
use Rattle.sparse_rows.proofs.Occurrences.{rising_push}
use Rattle.sparse_rows.proofs.Rising.{rising_short}
use Rattle.sparse_rows.proofs.Transposed.{all_selected}
use Rattle.sparse_rows.proofs.Spread.{entry_head, entry_support, entry_tail, support_sparse}
use Rattle.weight_order.specs.Keeping.{KeepsRank}
use Rattle.weight_order.specs.Multiples.{AddsUnlessRepeated, AreRepresentatives, AreProportional, HasSpanningRows, IsMultiple, IsRepeated}
use Rattle.weight_order.proofs.Selecting.{rank_moved, row_selected, selected_combination, selected_inside, zeros_combination}

-- rows at the same columns are in proportion if their values are
entries_scaled : (p a b : ℕ) (cs us vs : List ℕ) → length us ≡ length vs → ((t : ℕ) → t < length us → (slice_index us t * b) % p ≡ (slice_index vs t * a) % p) →
    (j : ℕ) → (entry_at cs us j * b) % p ≡ (entry_at cs vs j * a) % p
entries_scaled p a b [] us vs long same j = ap (λ x. x % p) (zero-mul b ∙ sym (zero-mul a))
entries_scaled p a b (c ∷ cs) [] [] long same j = ap (λ x. x % p) (zero-mul b ∙ sym (zero-mul a))
entries_scaled p a b (c ∷ cs) [] (v ∷ vs) long same j = absurd (omega arith)
entries_scaled p a b (c ∷ cs) (u ∷ us) [] long same j = absurd (omega arith)
entries_scaled p a b (c ∷ cs) (u ∷ us) (v ∷ vs) long same j =
    elim (cases_eq c j) [
      | inl e ↦ ap (λ x. (x * b) % p) (ap (entry_at (c ∷ cs) (u ∷ us)) (sym e) ∙ entry_head c cs u us) ∙ same 0 (omega arith)
          ∙ sym (ap (λ x. (x * a) % p) (ap (entry_at (c ∷ cs) (v ∷ vs)) (sym e) ∙ entry_head c cs v vs))
      | inr d ↦ ap (λ x. (x * b) % p) (entry_tail c cs u us j d) ∙ entries_scaled p a b cs us vs (omega arith) (λ t l. same (suc t) (omega arith)) j
          ∙ sym (ap (λ x. (x * a) % p) (entry_tail c cs v vs j d))
    ]

-- x is a multiple of y if b x is a y, and b i is 1
scaled_by : (p a b i x y : ℕ) → 2 ≤ p → (b * i) % p ≡ 1 → x < p → (x * b) % p ≡ (y * a) % p → x ≡ ((a * i) * y) % p
scaled_by p a b i x y two one small e =
    let apart : x * (b * i) ≡ (x * b) * i = omega arith in
    let turned : (y * a) * i ≡ (a * i) * y = omega arith in
    sym (mod-eq_of_lt small) ∙ ap (λ t. t % p) (sym (mul-one x)) ∙ mul_same p x x 1 (b * i) refl (mod-eq_of_lt two ∙ sym one)
    ∙ ap (λ t. t % p) apart ∙ mul_same p (x * b) (y * a) i i e refl ∙ ap (λ t. t % p) turned

module _ {p : ℕ} {A : Matrix} (m : IsMatrix p A) where
  -- a row is a multiple of one with an entry at the same columns if their values are in proportion
  pub multiple_of : (i k : ℕ) → i < A.height → k < A.height → support (row A i) ≡ support (row A k) → AreProportional p (nonzeros (row A i)) (nonzeros (row A k)) → IsPrime p →
      IsMultiple p A.width (row A i) (row A k)
  multiple_of i k li lk same h prime =
      let us : List ℕ = nonzeros (row A i) in
      let vs : List ℕ = nonzeros (row A k) in
      let cs : List ℕ = support (row A k) in
      let w = inverse p h.1 prime h.2 in
      let long : length us ≡ length vs = omega (arith, ap length same, (support_sparse (m.each i li)).long, (support_sparse (m.each k lk)).long) in (
        h.0 * w.0,
        λ j l. scaled_by p h.0 h.1 w.0 (entry A i j) (entry A k j) prime.two_or_more w.2 ((m.each i li).residues j l)
            (ap (λ x. (x * h.1) % p) (sym (entry_support (row A i) j) ∙ ap (λ s. entry_at s us j) same) ∙ entries_scaled p h.0 h.1 cs us vs long h.3 j
            ∙ ap (λ x. (x * h.0) % p) (entry_support (row A k) j)),
      )

  -- the same of what is read of the rows
  pub multiple_read : {i k q : ℕ} {cs ds us vs : List ℕ} → i < A.height → k < A.height → cs ≡ support (row A i) → ds ≡ support (row A k) → us ≡ nonzeros (row A i) → vs ≡ nonzeros (row A k) →
      q ≡ p → cs ≡ ds → AreProportional q us vs → IsPrime p → IsMultiple p A.width (row A i) (row A k)
  multiple_read {i} {k} {q} {cs} {ds} {us} {vs} li lk c d u v is same h =
      multiple_of i k li lk (sym c ∙ same ∙ d) (subst (λ n. AreProportional n (nonzeros (row A i)) (nonzeros (row A k))) is
      (subst (λ x. AreProportional q x (nonzeros (row A k))) u (subst (AreProportional q us) v h)))

  -- each row is a multiple of itself
  multiple_itself : (i : ℕ) → i < A.height → IsMultiple p A.width (row A i) (row A i)
  multiple_itself i l = (1, λ j lj. sym (mod-eq_of_lt ((m.each i l).residues j lj)) ∙ ap (λ t. t % p) (sym (one-mul (entry A i j))))

-- a multiple of what is in a row space is in it
multiple_combination : (p : ℕ) (B : Matrix) (v u : List ℕ) → 0 < p → IsVector p B.width v → IsMultiple p B.width v u → IsCombination p B u → IsCombination p B v
multiple_combination p B v u pos vector h c =
    subst (IsCombination p B) (list_equal B.width (mix p B.width h.0 0 u u) v (length_list_of B.width _) vector.len (λ j l.
    let plain : h.0 * slice_index u j + 0 * slice_index u j ≡ h.0 * slice_index u j = omega arith in
    at_mix p B.width h.0 0 u u j l ∙ ap (λ t. t % p) plain ∙ sym (h.1 j l))) (combination_mix p h.0 0 B u u pos c c)

-- what is repeated among some rows is so among one more
repeated_more : (R : ResidueMatrix) (kept : List ℕ) (s i : ℕ) → IsRepeated R kept s → IsRepeated R (kept ++ i ∷ []) s
repeated_more R kept s i h prime =
    let w = h prime in (
      w.0,
      omega (arith, w.1, length_push kept i),
      subst (λ r. IsMultiple R.modulus R.matrix.width (row R.matrix s) (row R.matrix r)) (sym (get_or_append_left kept (i ∷ []) 0 w.0 w.1)) w.2,
    )

-- the last of them is
repeated_last : (R : ResidueMatrix) (kept : List ℕ) (i : ℕ) → IsMatrix R.modulus R.matrix → i < R.matrix.height → IsRepeated R (kept ++ i ∷ []) i
repeated_last R kept i m l prime = (
  length kept,
  omega (arith, length_push kept i),
  subst (λ r. IsMultiple R.modulus R.matrix.width (row R.matrix i) (row R.matrix r)) (sym (get_or_push kept i 0 (length kept) refl)) (multiple_itself m i l),
)

-- what holds at each place of a list and of one more item
each_pushed : (P : ℕ → Type 0) (rows : List ℕ) (i : ℕ) → ((t : ℕ) → t < length rows → P (slice_index rows t)) → P i → (t : ℕ) → t < length (rows ++ i ∷ []) → P (slice_index (rows ++ i ∷ []) t)
each_pushed P rows i before last t l =
    elim (cases_eq t (length rows)) [
      | inl e ↦ subst P (sym (get_or_push rows i 0 t (sym e))) last
      | inr d ↦
          let less : t < length rows = omega (arith, length_push rows i) in
          subst P (sym (get_or_append_left rows (i ∷ []) 0 t less)) (before t less)
    ]

-- no rows
pub kept_none : (R : ResidueMatrix) → AreRepresentatives R [] []
kept_none R = record {
  rising = λ k t a b. absurd (omega arith);
  among = λ k l. absurd (omega arith);
  each = λ t l. absurd (omega arith);
}

-- a place among rows is one among one more
among_more : (rows : List ℕ) (i r : ℕ) → (t : ℕ) × (t < length rows) × (r ≡ slice_index rows t) → (t : ℕ) × (t < length (rows ++ i ∷ [])) × (r ≡ slice_index (rows ++ i ∷ []) t)
among_more rows i r w = (w.0, omega (arith, w.1, length_push rows i), w.2 ∙ sym (get_or_append_left rows (i ∷ []) 0 w.0 w.1))

-- a row more, behind the others
pub kept_more : {R : ResidueMatrix} {rows kept new : List ℕ} {i : ℕ} → IsMatrix R.modulus R.matrix → i < R.matrix.height → ((t : ℕ) → t < length rows → slice_index rows t < i) →
    AreRepresentatives R rows kept → AddsUnlessRepeated R i kept new → AreRepresentatives R (rows ++ i ∷ []) new
kept_more {R} {rows} {kept} {new} {i} m l above h (inl e) =
    subst (AreRepresentatives R (rows ++ i ∷ [])) (sym e) record {
      rising = rising_push kept i h.rising (λ k lk. let w = h.among k lk in omega (arith, w.2, above w.0 w.1));
      among = each_pushed (λ r. (t : ℕ) × (t < length (rows ++ i ∷ [])) × (r ≡ slice_index (rows ++ i ∷ []) t)) kept i (λ k lk. among_more rows i (slice_index kept k) (h.among k lk))
          (length rows, omega (arith, length_push rows i), sym (get_or_push rows i 0 (length rows) refl));
      each = each_pushed (IsRepeated R (kept ++ i ∷ [])) rows i (λ t lt. repeated_more R kept (slice_index rows t) i (h.each t lt)) (repeated_last R kept i m l);
    }
kept_more {R} {rows} {kept} {new} {i} m l above h (inr same) =
    subst (AreRepresentatives R (rows ++ i ∷ [])) (sym same.0) record {
      rising = h.rising;
      among = λ k lk. among_more rows i (slice_index kept k) (h.among k lk);
      each = each_pushed (IsRepeated R kept) rows i h.each same.1;
    }

-- what is kept of rows lies in the matrix as they do
pub kept_below : {R : ResidueMatrix} {rows kept : List ℕ} {n : ℕ} → ((t : ℕ) → t < length rows → slice_index rows t < n) → AreRepresentatives R rows kept →
    (k : ℕ) → k < length kept → slice_index kept k < n
kept_below below h k l = let w = h.among k l in omega (arith, w.2, below w.0 w.1)

pub kept_inside : {R : ResidueMatrix} {rows kept : List ℕ} {n : ℕ} → ((t : ℕ) → t < length rows → slice_index rows t < n) → AreRepresentatives R rows kept → All (λ i. i < n) kept
kept_inside {R} {rows} {kept} {n} below h k d l = subst (λ t. t < n) (get_or_default kept k 0 d l) (kept_below below h k l)

-- the first n of the filled rows
module _ {A : Matrix} {rows : List ℕ} (f : AreFilled A rows) (n : ℕ) where
  taken : (t : ℕ) → t < length (take n rows) → (t < n) × (t < length rows) × (slice_index (take n rows) t ≡ slice_index rows t)
  taken t l =
      let less : t < n = omega (arith, length-take n rows) in
      (less, omega (arith, length-take n rows), get_or-take n rows t 0 less)

  pub taken_below : (t : ℕ) → t < length (take n rows) → slice_index (take n rows) t < A.height
  taken_below t l = let w = taken t l in omega (arith, w.2, f.below t w.1)

  taken_above : n < length rows → (t : ℕ) → t < length (take n rows) → slice_index (take n rows) t < slice_index rows n
  taken_above l t lt = let w = taken t lt in omega (arith, w.2, f.rising t n w.0 l)

-- and one more
pub kept_next : {R : ResidueMatrix} {rows kept new : List ℕ} {n : ℕ} → IsMatrix R.modulus R.matrix → AreFilled R.matrix rows → n < length rows →
    AreRepresentatives R (take n rows) kept → AddsUnlessRepeated R (slice_index rows n) kept new → AreRepresentatives R (take (n + 1) rows) new
kept_next {R} {rows} {kept} {new} {n} m f l h more =
    subst (λ xs. AreRepresentatives R xs new) (sym (take_more rows n 0 l)) (kept_more m (f.below n l) (taken_above f n l) h more)

module _ {R : ResidueMatrix} {rows kept : List ℕ} (m : IsMatrix R.modulus R.matrix) (f : AreFilled R.matrix rows) (h : AreRepresentatives R rows kept) where
  -- a filled row is a multiple of one that is kept, and another is zero
  row_spanned : IsPrime R.modulus → (i : ℕ) → i < R.matrix.height → IsCombination R.modulus (selected R.matrix kept) (row R.matrix i)
  row_spanned prime i l =
      let p : ℕ = R.modulus in
      let A : Matrix = R.matrix in
      let S : Matrix = selected A kept in
      let two : 2 ≤ p = prime.two_or_more in
      ⊎_elim
      (λ filled.
      let at = place_in rows i (f.all i l filled) in
      let w = h.each at.0 at.1 prime in
      let one : IsCombination p S (row A (slice_index kept w.0)) =
      subst (IsCombination p S) (row_selected A kept w.0 w.1) (row_combination p S w.0 two (selected_inside p A kept m (kept_inside f.below h)) w.1) in
      subst (λ r. IsCombination p S (row A r)) at.2
      (multiple_combination p S (row A (slice_index rows at.0)) (row A (slice_index kept w.0)) (omega arith) (m.each _ (f.below at.0 at.1)) w.2 one))
      (λ z. subst (IsCombination p S) (sym (zero_row m i l z)) (zeros_combination p S (omega arith)))
      (filled_or_zero A i)

  -- so the kept rows have the row space
  pub kept_spanning : {T : ResidueMatrix} → T.modulus ≡ R.modulus → T.matrix ≡ selected R.matrix kept → HasSpanningRows R T
  kept_spanning {T} modulus matrix = record {
    sound = m;
    modulus = modulus;
    numbers = kept;
    rising = h.rising;
    below = kept_below f.below h;
    matrix = matrix;
    span = λ prime. subst (SameSpan R.modulus R.matrix) (sym matrix) (same_span_of_rows R.modulus R.matrix (selected R.matrix kept) (two prime) refl (row_spanned prime)
        (selected_combination R.modulus R.matrix kept prime.two_or_more m (kept_inside f.below h)));
  }
    where
      two : IsPrime R.modulus → 0 < R.modulus
      two prime = omega (arith, prime.two_or_more)

-- a matrix has its own rows
pub spanning_itself : {R : ResidueMatrix} → IsMatrix R.modulus R.matrix → HasSpanningRows R R
spanning_itself {R} m =
    let n : ℕ = R.matrix.height in
    let numbers : List ℕ = range_with_len 0 n in
    let number : (k : ℕ) → k < length numbers → slice_index numbers k ≡ k = λ k l. omega (arith, get_or-range_with_len 0 n k 0 (omega (arith, length-range_with_len 0 n))) in
    record {
      sound = m;
      modulus = refl;
      numbers = numbers;
      rising = λ k t a b. omega (arith, number k (omega arith), number t b);
      below = λ k l. omega (arith, number k l, length-range_with_len 0 n);
      matrix = all_selected R.matrix m.len;
      span = λ prime v. (λ c. c, λ c. c);
    }

-- such rows keep the rank
pub spanning_keeps : {R T : ResidueMatrix} → HasSpanningRows R T → KeepsRank R T
spanning_keeps {R} {T} h =
    let inside : All (λ i. i < R.matrix.height) h.numbers = λ k d l. subst (λ t. t < R.matrix.height) (get_or_default h.numbers k 0 d l) (h.below k l) in
    let width : T.matrix.width ≡ R.matrix.width = ap (λ (M : Matrix). M.width) h.matrix in
    let height : T.matrix.height ≡ length h.numbers = ap (λ (M : Matrix). M.height) h.matrix in
    record {
      modulus = h.modulus;
      sound = subst (λ q. IsMatrix q T.matrix) (sym h.modulus) (subst (IsMatrix R.modulus) (sym h.matrix) (selected_inside R.modulus R.matrix h.numbers h.sound inside));
      rank = λ prime r. rank_moved R.modulus T.matrix R.matrix r width (same_span_turned R.modulus R.matrix T.matrix (h.span prime));
      least = omega (arith, width, height, rising_short h.numbers R.matrix.height h.rising h.below);
    }
