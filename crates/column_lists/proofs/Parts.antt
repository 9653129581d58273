-- Parts of a list, one after another: where they begin, and how long they are.
use Rattle.std.proofs.Common.{ℕ, zero, suc, ◌≡◌, ◌+◌, ◌-◌, ◌<◌, ◌≤◌, inl, inr, List, [], ◌∷◌, ◌++◌, length, map, take, drop, slice_index, slice_range, sym, refl, ap, ap₂, subst, ◌∙◌, arith, replicate}
use Rattle.std.proofs.lemmas.List.{drop_at, get_or_append_left, get_or_push, length-append, length-drop, length-take-le, length_push, take_all, take-append-le, drop-append-le, get_or-take, get_or-append_right, get_or-replicate, length-replicate, drop-map, take-map}
use Rattle.std.proofs.lemmas.Bool.{cases_lt, cases_eq}
use Rattle.column_lists.specs.Parts.{AreStarts, part, AreJoined, part_numbers}

-- later parts begin later
pub starts_rise : {n total : ℕ} {starts : List ℕ} → AreStarts n total starts → (d i : ℕ) → i + d ≤ n → slice_index starts i ≤ slice_index starts (i + d)
starts_rise {n} {total} {starts} s zero i l = omega (arith, ap (slice_index starts) (let e : i + zero ≡ i = omega arith in e))
starts_rise {n} {total} {starts} s (suc d) i l =
    omega (arith, starts_rise s d i (omega arith), s.rising (i + d) (omega arith), ap (slice_index starts) (let e : i + suc d ≡ i + d + 1 = omega arith in e))

-- each part ends within the list
pub starts_below : {n total : ℕ} {starts : List ℕ} → AreStarts n total starts → (i : ℕ) → i ≤ n → slice_index starts i ≤ total
starts_below {n} {total} {starts} s i l =
    omega (arith, starts_rise s (n - i) i (omega arith), ap (slice_index starts) (let e : i + (n - i) ≡ n = omega arith in e), s.last)

-- how long a part is
pub length_part : {n : ℕ} {starts : List ℕ} (xs : List ℕ) → AreStarts n (length xs) starts → (i : ℕ) → i < n → length (part starts xs i) + slice_index starts i ≡ slice_index starts (i + 1)
unfolding part
length_part {n} {starts} xs s i l =
    let a : ℕ = slice_index starts i in
    let b : ℕ = slice_index starts (i + 1) in
    let up : a ≤ b = s.rising i l in
    let end : b ≤ length xs = starts_below s (i + 1) (omega arith) in
    omega (arith, length-take-le (b - a) (drop a xs) (omega (arith, length-drop a xs)))

-- a list that ends with one part more has the same earlier parts
pub part_before : (starts : List ℕ) (xs ys : List ℕ) (e i : ℕ) → i + 1 < length starts → slice_index starts i ≤ slice_index starts (i + 1) → slice_index starts (i + 1) ≤ length xs →
    part (starts ++ e ∷ []) (xs ++ ys) i ≡ part starts xs i
unfolding part
part_before starts xs ys e i l up end =
    let a : ℕ = slice_index starts i in
    let b : ℕ = slice_index starts (i + 1) in
    let from : slice_index (starts ++ e ∷ []) i ≡ a = get_or_append_left starts (e ∷ []) 0 i (omega arith) in
    let to : slice_index (starts ++ e ∷ []) (i + 1) ≡ b = get_or_append_left starts (e ∷ []) 0 (i + 1) l in
    ap₂ (slice_range (xs ++ ys)) from to
    ∙ ap (take (b - a)) (drop-append-le a xs ys (omega arith))
    ∙ take-append-le (b - a) (drop a xs) ys (omega (arith, length-drop a xs))

-- and the part at its end
pub part_end : (starts : List ℕ) (xs ys : List ℕ) (n : ℕ) → length starts ≡ n + 1 → slice_index starts n ≡ length xs → part (starts ++ length (xs ++ ys) ∷ []) (xs ++ ys) n ≡ ys
unfolding part
part_end starts xs ys n long last =
    let e : ℕ = length (xs ++ ys) in
    let from : slice_index (starts ++ e ∷ []) n ≡ length xs = get_or_append_left starts (e ∷ []) 0 n (omega arith) ∙ last in
    let to : slice_index (starts ++ e ∷ []) (n + 1) ≡ e = get_or_push starts e 0 (n + 1) long in
    ap₂ (slice_range (xs ++ ys)) from to
    ∙ ap (take (e - length xs)) (drop_at xs ys (length xs) refl)
    ∙ take_all (e - length xs) ys (omega (arith, length-append xs ys))

-- one start more
pub starts_push : (n : ℕ) (starts xs ys : List ℕ) → AreStarts n (length xs) starts → AreStarts (n + 1) (length (xs ++ ys)) (starts ++ length (xs ++ ys) ∷ [])
starts_push n starts xs ys s =
    let e : ℕ = length (xs ++ ys) in
    let old : (i : ℕ) → i < length starts → slice_index (starts ++ e ∷ []) i ≡ slice_index starts i = λ i l. get_or_append_left starts (e ∷ []) 0 i l in
    let new : slice_index (starts ++ e ∷ []) (n + 1) ≡ e = get_or_push starts e 0 (n + 1) s.long in
    record {
      long = omega (arith, length_push starts e, s.long);
      first = omega (arith, old 0 (omega (arith, s.long)), s.first);
      rising = λ i l. elim (cases_lt i n) [
        | inl b ↦ omega (arith, old i (omega (arith, s.long)), old (i + 1) (omega (arith, s.long)), s.rising i b)
        | inr b ↦
            let same : i ≡ n = omega arith in
            omega (arith, old i (omega (arith, s.long)), ap (slice_index starts) same, s.last, ap (λ k. slice_index (starts ++ e ∷ []) (k + 1)) same, new, length-append xs ys)
      ];
      last = new;
    }

-- the part at i of renamed columns
pub part_map : (f : ℕ → ℕ) (starts cs : List ℕ) (i : ℕ) → part starts (map f cs) i ≡ map f (part starts cs i)
unfolding part
part_map f starts cs i =
    let a : ℕ = slice_index starts i in
    let b : ℕ = slice_index starts (i + 1) in
    ap (take (b - a)) (drop-map f a cs) ∙ take-map f (b - a) (drop a cs)

-- before any of the further starts
pub joined_none : (by : ℕ) (starts from : List ℕ) → AreJoined by starts (take 1 from) starts
joined_none by starts from = record {
  long = omega (arith, short from);
  before = λ i l. refl;
  behind = λ k l. absurd (omega (arith, short from));
}
  where
    short : (xs : List ℕ) → length (take 1 xs) ≤ 1
    short [] = omega arith
    short (x ∷ xs) = omega arith

-- one more of them
pub joined_more : (by : ℕ) (starts from joined : List ℕ) (k : ℕ) → 1 ≤ k → k < length from → AreJoined by starts (take k from) joined →
    AreJoined by starts (take (k + 1) from) (joined ++ (by + slice_index from k) ∷ [])
joined_more by starts from joined k low l j =
    let s : ℕ = by + slice_index from k in
    let old : length (take k from) ≡ k = length-take-le k from (omega arith) in
    let new : length (take (k + 1) from) ≡ k + 1 = length-take-le (k + 1) from (omega arith) in
    let all : length joined ≡ length starts + (k - 1) = omega (arith, j.long, old) in
    record {
      long = omega (arith, length_push joined s, all, new);
      before = λ i a. get_or_append_left joined (s ∷ []) 0 i (omega (arith, all)) ∙ j.before i a;
      behind = λ t a. elim (cases_lt (t + 1) k) [
        | inl b ↦ omega (
          arith,
          get_or_append_left joined (s ∷ []) 0 (length starts + t) (omega (arith, all)),
          j.behind t (omega (arith, old)),
          get_or-take k from (t + 1) 0 b,
          get_or-take (k + 1) from (t + 1) 0 (omega arith),
        )
        | inr b ↦
            let last : k ≡ t + 1 = omega (arith, new) in
            omega (
              arith,
              get_or_push joined s 0 (length starts + t) (omega (arith, all)),
              get_or-take (k + 1) from (t + 1) 0 (omega arith),
              ap (slice_index from) last,
            )
      ];
    }

-- and all
pub joined_all : (by : ℕ) (starts from joined : List ℕ) (k : ℕ) → length from ≤ k → AreJoined by starts (take k from) joined → AreJoined by starts from joined
joined_all by starts from joined k l j = subst (λ f. AreJoined by starts f joined) (take_all k from l) j

-- the items up to the next part
pub take_part : (n : ℕ) (starts xs : List ℕ) → AreStarts n (length xs) starts → (r : ℕ) → r < n → take (slice_index starts (r + 1)) xs ≡ take (slice_index starts r) xs ++ part starts xs r
unfolding part
take_part n starts xs s r l = take_further (slice_index starts r) (slice_index starts (r + 1)) xs (s.rising r l)
  where
    take_further : (a b : ℕ) (ys : List ℕ) → a ≤ b → take b ys ≡ take a ys ++ take (b - a) (drop a ys)
    take_further zero b ys u = ap (λ t. take t ys) (let e : b ≡ b - zero = omega arith in e)
    take_further (suc a) zero ys u = absurd (omega arith)
    take_further (suc a) (suc b) [] u = sym (take_all (suc b - suc a) [] (omega arith))
    take_further (suc a) (suc b) (y ∷ ys) u = ap (λ t. y ∷ t) (take_further a b ys (omega arith) ∙ ap (λ t. take a ys ++ take t (drop a ys)) (let e : b - a ≡ suc b - suc a = omega arith in e))

-- as many part numbers as items
pub length_part_numbers : (n total : ℕ) (starts : List ℕ) → AreStarts n total starts → (r : ℕ) → r ≤ n → length (part_numbers r starts) ≡ slice_index starts r
length_part_numbers n total starts s zero l = sym s.first
length_part_numbers n total starts s (suc r) l =
    let next : ℕ = slice_index starts (r + 1) in
    length-append (part_numbers r starts) (replicate (next - slice_index starts r) r)
    ∙ omega (
      arith,
      length_part_numbers n total starts s r (omega arith),
      length-replicate (next - slice_index starts r) r,
      s.rising r (omega arith),
      ap (slice_index starts) (let e : suc r ≡ r + 1 = omega arith in e),
    )

-- the number of the part in which an item stands
pub part_number_at : (n total : ℕ) (starts : List ℕ) → AreStarts n total starts → (r : ℕ) → r ≤ n → (i k : ℕ) → i < r → slice_index starts i ≤ k → k < slice_index starts (i + 1) →
    slice_index (part_numbers r starts) k ≡ i
part_number_at n total starts s zero l i k a b c = absurd (omega arith)
part_number_at n total starts s (suc r) l i k a b c =
    let here : ℕ = slice_index starts r in
    let many : ℕ = slice_index starts (r + 1) - here in
    let long : length (part_numbers r starts) ≡ here = length_part_numbers n total starts s r (omega arith) in
    elim (cases_eq i r) [
      | inl e ↦
          let from : slice_index starts i ≡ here = ap (slice_index starts) e in
          let to : slice_index starts (i + 1) ≡ slice_index starts (r + 1) = ap (λ t. slice_index starts (t + 1)) e in
          get_or-append_right (part_numbers r starts) (replicate many r) here k 0 long (omega (arith, from)) ∙ get_or-replicate many (k - here) r 0 (omega (arith, from, to)) ∙ sym e
      | inr d ↦
          let later : i + 1 + (r - (i + 1)) ≡ r = omega arith in
          get_or_append_left (part_numbers r starts) (replicate many r) 0 k (omega (arith, long, starts_rise s (r - (i + 1)) (i + 1) (omega arith), ap (slice_index starts) later))
          ∙ part_number_at n total starts s r (omega arith) i k (omega arith) b c
    ]
