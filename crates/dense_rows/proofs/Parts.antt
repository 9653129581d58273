-- The end of a slice, changed in its place, and of a `Vec` that was lent and put back.
use Rattle.std.proofs.Common.{ℕ, ◌≡◌, ◌+◌, ◌-◌, ◌*◌, ◌%◌, ◌<◌, ◌≤◌, inl, inr, List, ◌++◌, length, map, slice_index, slice_index_or, take, drop, subst, sym, ap, ap₂, ◌∙◌, arith, length-append, mod-eq_of_lt, add-zero, mul-zero}
use Rattle.std.proofs.Math.ListN.{get_or-append}
use Rattle.std.proofs.Math.Seq.{get_or-append_right, take-append_seam}
use Rattle.std.proofs.lemmas.Bool.{cases_lt}
use Rattle.std.proofs.lemmas.List.{drop-map, get_or-drop, get_or-map, get_or-take, length-drop, length-map, length-take, map-append, take-map, take_all}
use Rattle.residue_words.specs.Matrix.{IsVector, list_of}
use Rattle.residue_words.proofs.Vectors.{at_list_of, length_list_of, list_equal}
use Rattle.dense_rows.specs.Multiples.{IsChangedFrom, plus_at, plus_multiple}

-- the end from `from` on, as a borrow of it is written
abbrev pub ending : {X : Type 0} → ℕ → List X → List X
ending from xs = take (length xs - from) (drop from xs)

-- f of its elements
pub ending_is : {X : Type 0} (f : X → ℕ) (from : ℕ) (xs : List X) → map f (ending from xs) ≡ drop from (map f xs)
ending_is f from xs = ap (map f) (take_all (length xs - from) (drop from xs) (omega (arith, length-drop from xs))) ∙ sym (drop-map f from xs)

pub length_ending : {X : Type 0} (from : ℕ) (xs : List X) → length (ending from xs) ≡ length xs - from
length_ending from xs = length-take (length xs - from) (drop from xs) ∙ omega (arith, length-drop from xs)

pub at_ending : {X : Type 0} (f : X → ℕ) (from : ℕ) (xs : List X) (k : ℕ) → slice_index (map f (ending from xs)) k ≡ slice_index (map f xs) (from + k)
at_ending f from xs k = ap (λ l. slice_index l k) (ending_is f from xs) ∙ get_or-drop from (map f xs) k 0

-- what an item that was read stands for
pub read_is : {X : Type 0} (f : X → ℕ) (xs : List X) (k : ℕ) (x : X) → k < length xs → x ≡ slice_index_or xs k x → f x ≡ slice_index (map f xs) k
read_is f xs k x l read = ap f read ∙ sym (get_or-map f xs k x 0 l)

-- a list whose front stays, and whose end is `out`
pub at_front : {X : Type 0} (from : ℕ) (xs out rest : List X) (j : ℕ) (d : X) → from ≤ length xs → j < from → slice_index_or (take from xs ++ (out ++ rest)) j d ≡ slice_index_or xs j d
at_front from xs out rest j d le l =
    get_or-append (take from xs) (out ++ rest) d j (omega (arith, length-take from xs)) ∙ get_or-take from xs j d l

pub at_back : {X : Type 0} (from : ℕ) (xs out rest : List X) (j : ℕ) (d : X) → from ≤ length xs → from ≤ j → j - from < length out → slice_index_or (take from xs ++ (out ++ rest)) j d ≡ slice_index_or out (j - from) d
at_back from xs out rest j d le past l =
    let front : length (take from xs) ≡ from = omega (arith, length-take from xs) in
    get_or-append_right (take from xs) (out ++ rest) j d (omega arith) ∙ ap (λ k. slice_index_or (out ++ rest) (j - k) d) front ∙ get_or-append out rest d (j - from) l

-- xs, whose end from `from` on is `out`, as a borrow of it leaves the list
abbrev with_end : {X : Type 0} → ℕ → List X → List X → List X
with_end from xs out = take from xs ++ (out ++ drop (length xs - from) (drop from xs))

-- nothing is behind the end
length_changed : {X : Type 0} (from : ℕ) (xs out : List X) → from ≤ length xs → length out ≡ length xs - from → length (with_end from xs out) ≡ length xs
length_changed from xs out le long =
    omega (
      arith,
      length-append (take from xs) (out ++ drop (length xs - from) (drop from xs)),
      length-append out (drop (length xs - from) (drop from xs)),
      length-take from xs,
      length-drop (length xs - from) (drop from xs),
      length-drop from xs,
    )

-- the end is changed to what g gives
end_changed : {X : Type 0} (f : X → ℕ) (g : ℕ → ℕ) (from : ℕ) (xs out : List X) (u : List ℕ) → map f xs ≡ u → from ≤ length u → length out ≡ length (ending from xs) →
    ((k : ℕ) → k < length (ending from xs) → slice_index (map f out) k ≡ g (from + k)) →
    IsChangedFrom g u from (map f (with_end from xs out))
end_changed f g from xs out u is le same each =
    let wide : length xs ≡ length u = sym (length-map xs f) ∙ ap length is in
    let long : length out ≡ length xs - from = same ∙ length_ending from xs in
    let rest : List _ = drop (length xs - from) (drop from xs) in
    let whole : map f (take from xs ++ (out ++ rest)) ≡ take from u ++ (map f out ++ map f rest) =
    map-append f (take from xs) (out ++ rest) ∙ ap₂ (λ x y. x ++ y) (sym (take-map f from xs) ∙ ap (take from) is) (map-append f out rest) in
    record {
      long = length-map _ f ∙ length_changed from xs out (omega arith) long ∙ wide;
      changed = λ j past l.
          let inner : j - from < length (ending from xs) = omega (arith, length_ending from xs) in
          let back : from + (j - from) ≡ j = omega arith in
          ap (λ z. slice_index z j) whole ∙ at_back from u (map f out) (map f rest) j 0 le past (omega (arith, length-map out f, length_ending from xs))
          ∙ each (j - from) inner ∙ ap g back;
      kept = λ j less. ap (λ z. slice_index z j) whole ∙ at_front from u (map f out) (map f rest) j 0 le less;
    }

-- a `Vec` whose whole slice was changed
pub refilled : {X : Type 0} (n : ℕ) (xs items : List X) → length xs ≡ n → length items ≡ n → take n (xs ++ drop (length xs) items) ≡ xs
refilled n xs items long same =
    ap (λ k. take k (xs ++ drop (length xs) items)) (sym long) ∙ take-append_seam xs (drop (length xs) items)

-- the end of a `Vec` was lent and put back, changed to what g gives
pub changed_at_end : {X : Type 0} {n : ℕ} {items : List X} {u : List ℕ} (f : X → ℕ) (g : ℕ → ℕ) (from : ℕ) (xs out : List X) → xs ≡ items → n ≡ length items → map f items ≡ u → from ≤ length u →
    length out ≡ length (ending from xs) → ((k : ℕ) → k < length (ending from xs) → slice_index (map f out) k ≡ g (from + k)) →
    IsChangedFrom g u from (map f (take n (with_end from xs out ++ drop (length (with_end from xs out)) items)))
changed_at_end {X} {n} {items} {u} f g from xs out lent all is le same each =
    let view : map f xs ≡ u = ap (map f) lent ∙ is in
    let inside : from ≤ length xs = omega (arith, le, ap length view, length-map xs f) in
    let long : length (with_end from xs out) ≡ n = length_changed from xs out inside (same ∙ length_ending from xs) ∙ ap length lent ∙ sym all in
    subst (IsChangedFrom g u from) (sym (ap (map f) (refilled n (with_end from xs out) items long (sym all)))) (end_changed f g from xs out u view le same each)

-- and a y added
pub added_at_end : {X : Type 0} {n : ℕ} {items : List X} {u v : List ℕ} (f : X → ℕ) (p a from : ℕ) (xs ys out : List X) → xs ≡ items → n ≡ length items → map f items ≡ u → map f ys ≡ v → from ≤ length u →
    map f out ≡ list_of (length (ending from xs)) (plus_at p a (map f (ending from xs)) (map f (ending from ys))) →
    IsChangedFrom (plus_at p a u v) u from (map f (take n (with_end from xs out ++ drop (length (with_end from xs out)) items)))
added_at_end {X} {n} {items} {u} {v} f p a from xs ys out lent all is ys-is le added =
    let xs-is : map f xs ≡ u = ap (map f) lent ∙ is in
    changed_at_end f (plus_at p a u v) from xs out lent all is le (sym (length-map out f) ∙ ap length added ∙ length_list_of _ _) (λ k l.
    ap (λ z. slice_index z k) added ∙ at_list_of _ _ k l
    ∙ ap₂ (λ x y. (x + a * y) % p) (at_ending f from xs k ∙ ap (λ z. slice_index z (from + k)) xs-is) (at_ending f from ys k ∙ ap (λ z. slice_index z (from + k)) ys-is))

-- that is all of a y, where y is 0 before `from`
pub added_all : (p a from : ℕ) (u v w : List ℕ) → IsVector p (length u) u → ((j : ℕ) → j < from → slice_index v j ≡ 0) → IsChangedFrom (plus_at p a u v) u from w → w ≡ plus_multiple p a u v
added_all p a from u v w vector none h =
    list_equal (length u) w (plus_multiple p a u v) h.long (length_list_of (length u) (plus_at p a u v)) (λ j l.
    elim (cases_lt j from) [
      | inl less ↦
          h.kept j less
          ∙ sym (ap (λ x. (slice_index u j + a * x) % p) (none j less) ∙ ap (λ x. (slice_index u j + x) % p) (mul-zero a) ∙ ap (λ x. x % p) (add-zero (slice_index u j)) ∙ mod-eq_of_lt (vector.residues j l))
      | inr past ↦ h.changed j past l
    ]
    ∙ sym (at_list_of (length u) (plus_at p a u v) j l))

-- residues stay below p at the end
pub ending_below : {X : Type 0} (f : X → ℕ) (p from : ℕ) (xs : List X) (u : List ℕ) → map f xs ≡ u → IsVector p (length u) u → (k : ℕ) → k < length (ending from xs) → slice_index (map f (ending from xs)) k < p
ending_below f p from xs u is vector k l =
    let read : slice_index (map f (ending from xs)) k ≡ slice_index u (from + k) = at_ending f from xs k ∙ ap (λ z. slice_index z (from + k)) is in
    omega (arith, read, vector.residues (from + k) (omega (arith, length_ending from xs, length-map xs f, ap length is)))
