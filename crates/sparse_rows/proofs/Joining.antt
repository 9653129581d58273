-- Stored rows behind others: what both stand for, one above the other.
use Rattle.std.proofs.Common.{ℕ, zero, suc, ◌≡◌, ◌+◌, ◌-◌, ◌<◌, ◌≤◌, inl, inr, List, ◌++◌, length, map, take, drop, slice_index, slice_index_or, slice_range, sym, refl, ap, ap₂, subst, ◌∙◌, arith}
use Rattle.std.specs.List.{range_with_len}
use Rattle.std.proofs.Math.Seq.{drop-append-add}
use Rattle.std.proofs.lemmas.Bool.{cases_lt}
use Rattle.std.proofs.lemmas.List.{get_or_append_left, get_or-append-add, length-append, length-drop, same_lists, take-append-le, drop-append-le}
use Rattle.std.proofs.lemmas.List.FromFn.{get_or-map-range_with_len, length-map-range_with_len}
use Rattle.sparse_rows.specs.Rows.{above}
use Rattle.column_lists.specs.Parts.{AreJoined, AreStarts, part}
use Rattle.sparse_rows.specs.Stored.{IsSparse, IsStored, spread, stored_matrix, stored_row}
use Rattle.sparse_rows.proofs.Loops.{sized}
use Rattle.column_lists.proofs.Parts.{starts_below}
use Rattle.sparse_rows.proofs.Stored.{value_parts}

module _ (p n : ℕ) (starts cs vs : List ℕ) (stored : IsStored p n starts cs vs) (starts' cs' vs' : List ℕ) (stored' : IsStored p n starts' cs' vs') (joined : List ℕ) (j : AreJoined (length cs) starts starts' joined)
  where
    h : ℕ
    h = length starts - 1

    h' : ℕ
    h' = length starts' - 1

    high : length joined ≡ h + h' + 1
    unfolding h h'
    high = omega (arith, j.long, stored.parts.long)

    -- the parts of the first rows begin where they did
    start_first : (i : ℕ) → i ≤ h → slice_index joined i ≡ slice_index starts i
    unfolding h
    start_first i l = j.before i (omega (arith, stored.parts.long))

    -- those of the further ones behind all items of the first
    start_second : (t : ℕ) → t ≤ h' → slice_index joined (h + t) ≡ length cs + slice_index starts' t
    unfolding h h'
    start_second zero l =
        omega (arith, start_first h (omega arith), stored.parts.last, stored'.parts.first, ap (slice_index joined) (let e : h + zero ≡ h = omega arith in e))
    start_second (suc t) l =
        omega (
          arith,
          j.behind t (omega arith),
          ap (slice_index joined) (let e : h + suc t ≡ length starts + t = omega (arith, stored.parts.long) in e),
          ap (slice_index starts') (let e : suc t ≡ t + 1 = omega arith in e),
        )

    part_first : (xs ys : List ℕ) → AreStarts h (length xs) starts → (i : ℕ) → i < h → part joined (xs ++ ys) i ≡ part starts xs i
    unfolding part
    part_first xs ys s i l =
        let a : ℕ = slice_index starts i in
        let b : ℕ = slice_index starts (i + 1) in
        let end : b ≤ length xs = starts_below s (i + 1) (omega arith) in
        let up : a ≤ b = s.rising i l in
        ap₂ (slice_range (xs ++ ys)) (start_first i (omega arith)) (start_first (i + 1) (omega arith))
        ∙ ap (take (b - a)) (drop-append-le a xs ys (omega arith))
        ∙ take-append-le (b - a) (drop a xs) ys (omega (arith, length-drop a xs))

    part_second : (xs ys : List ℕ) → length xs ≡ length cs → (t : ℕ) → t < h' → part joined (xs ++ ys) (h + t) ≡ part starts' ys t
    unfolding part
    part_second xs ys same t l =
        let a : ℕ = slice_index starts' t in
        let b : ℕ = slice_index starts' (t + 1) in
        let from : slice_index joined (h + t) ≡ length xs + a = start_second t (omega arith) ∙ ap (λ m. m + a) (sym same) in
        let next : h + t + 1 ≡ h + (t + 1) = omega arith in
        let to : slice_index joined (h + t + 1) ≡ length xs + b = ap (slice_index joined) next ∙ start_second (t + 1) (omega arith) ∙ ap (λ m. m + b) (sym same) in
        let long : (length xs + b) - (length xs + a) ≡ b - a = omega arith in
        ap₂ (slice_range (xs ++ ys)) from to ∙ ap₂ take long (drop-append-add xs ys a)

    first_values : AreStarts h (length vs) starts
    unfolding h
    first_values = value_parts stored

    first_columns : AreStarts h (length cs) starts
    unfolding h
    first_columns = stored.parts

    -- what holds of the first rows and of the further ones
    each_row : (P : ℕ → Type 0) → ((i : ℕ) → i < h → P i) → ((t : ℕ) → t < h' → P (h + t)) → (i : ℕ) → i < h + h' → P i
    each_row P first second i l = elim (cases_lt i h) [
      | inl a ↦ first i a
      | inr b ↦ let e : h + (i - h) ≡ i = omega arith in subst P e (second (i - h) (omega arith))
    ]

    pub joined_stored : (length starts - 1) + (length starts' - 1) ≤ 2147483648 → IsStored p n joined (cs ++ cs') (vs ++ vs')
    unfolding h h'
    joined_stored small = record {
      height_small = omega (arith, high);
      width_small = stored.width_small;
      two_or_more = stored.two_or_more;
      in_range = stored.in_range;
      parts = record {
        long = omega (arith, high);
        first = omega (arith, start_first 0 (omega arith), stored.parts.first);
        rising = λ i l. each_row (λ i. slice_index joined i ≤ slice_index joined (i + 1))
            (λ i l. omega (arith, start_first i (omega arith), start_first (i + 1) (omega arith), stored.parts.rising i l))
            (λ t l.
            omega (arith, start_second t (omega arith), start_second (t + 1) (omega arith), stored'.parts.rising t l, ap (slice_index joined) (let e : h + t + 1 ≡ h + (t + 1) = omega arith in e)))
            i (omega (arith, high));
        last =
            omega (
              arith,
              start_second h' (omega arith),
              stored'.parts.last,
              length-append cs cs',
              ap (slice_index joined) (let e : length joined - 1 ≡ h + h' = omega (arith, high) in e),
            );
      };
      long = omega (arith, length-append vs vs', length-append cs cs', stored.long, stored'.long);
      each = λ i l. each_row (λ i. IsSparse p n (part joined (cs ++ cs') i) (part joined (vs ++ vs') i))
          (λ i l. rw (part_first cs cs' first_columns i l, part_first vs vs' first_values i l) (stored.each i l))
          (λ t l. rw (part_second cs cs' refl t l, part_second vs vs' (sym stored.long) t l) (stored'.each t l))
          i (omega (arith, high));
    }

    joined_rows : (stored_matrix n joined (cs ++ cs') (vs ++ vs')).rows ≡ (stored_matrix n starts cs vs).rows ++ (stored_matrix n starts' cs' vs').rows
    unfolding h h' stored_row
    joined_rows =
        let f : ℕ → List ℕ = stored_row n joined (cs ++ cs') (vs ++ vs') in
        let g : ℕ → List ℕ = stored_row n starts cs vs in
        let g' : ℕ → List ℕ = stored_row n starts' cs' vs' in
        let A : List (List ℕ) = map g (range_with_len 0 h) in
        let B : List (List ℕ) = map g' (range_with_len 0 h') in
        let total : length joined - 1 ≡ h + h' = omega (arith, high) in
        let long : length A ≡ h = length-map-range_with_len g 0 h in
        let long' : length B ≡ h' = length-map-range_with_len g' 0 h' in
        ap (λ m. map f (range_with_len 0 m)) total
        ∙ same_lists (map f (range_with_len 0 (h + h'))) (A ++ B) (length-map-range_with_len f 0 (h + h') ∙ omega (arith, length-append A B, long, long'))
        (λ k d l. each_row (λ k. slice_index_or (map f (range_with_len 0 (h + h'))) k d ≡ slice_index_or (A ++ B) k d)
        (λ i l. get_or-map-range_with_len f 0 (h + h') i i d (omega arith) (omega arith)
        ∙ ap₂ (spread n) (part_first cs cs' first_columns i l) (part_first vs vs' first_values i l)
        ∙ sym (get_or_append_left A B d i (omega (arith, long)) ∙ get_or-map-range_with_len g 0 h i i d l (omega arith)))
        (λ t l. get_or-map-range_with_len f 0 (h + h') (h + t) (h + t) d (omega arith) (omega arith)
        ∙ ap₂ (spread n) (part_second cs cs' refl t l) (part_second vs vs' (sym stored.long) t l)
        ∙ sym (ap (λ m. slice_index_or (A ++ B) (m + t) d) (sym long) ∙ get_or-append-add A B t d ∙ get_or-map-range_with_len g' 0 h' t t d l (omega arith)))
        k (omega (arith, length-map-range_with_len f 0 (h + h'))))

    pub joined_matrix : stored_matrix n joined (cs ++ cs') (vs ++ vs') ≡ above (stored_matrix n starts cs vs) (stored_matrix n starts' cs' vs')
    unfolding h h'
    joined_matrix = ap₂ (λ m rs. sized m n rs) (let e : length joined - 1 ≡ h + h' = omega (arith, high) in e) joined_rows
