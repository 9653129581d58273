-- A multiple of one row added to another, some entries at a time.
use Rattle.std.proofs.Common.{ℕ, List, get_or, length, take, drop, length-drop, set, length-set, get_or-set_same, get_or-set_other, below_more, ◌≡◌, ◌+◌, ◌-◌, ◌*◌, ◌%◌, ◌<◌, ◌≤◌, inl, inr, sym, ap, subst, ◌∙◌, arith}
use borrow.Rule.Slice.PartMut.{put_mid, same_len_mid}
use Rattle.std.specs.Simd.Lanes.{put_chunk}
use Rattle.std.proofs.lemmas.Simd.{length-put_chunk, get_or-put_chunk_below, get_or-put_chunk_at, get_or-put_chunk_above}
use Rattle.std.proofs.lemmas.Bool.{cases_lt}
use Rattle.std.proofs.lemmas.List.{length-take-le, take_rest, get_or_append_left, get_or-append_right, get_or-take, get_or-drop}
use Rattle.residue_words.specs.Matrix.{list_of}
use Rattle.residue_words.proofs.Vectors.{list_equal, length_list_of, at_list_of}
use Rattle.dense_rows.specs.Multiples.{IsAddedBelow, plus_at}

-- all entries
pub added_all : (p a : ℕ) (x y new : List ℕ) (n : ℕ) → n ≡ length x → IsAddedBelow (plus_at p a x y) x n new →
    new ≡ list_of (length x) (λ k. (get_or x k 0 + a * get_or y k 0) % p)
added_all p a x y new n e h =
    let f = λ (k : ℕ). (get_or x k 0 + a * get_or y k 0) % p in
    list_equal (length x) new (list_of (length x) f) h.long (length_list_of (length x) f) (λ k l. h.added k (omega arith) ∙ sym (at_list_of (length x) f k l))

-- the entry at k
pub added_one : (p a : ℕ) (x y mid : List ℕ) (k v : ℕ) → IsAddedBelow (plus_at p a x y) x k mid → k < length x →
    v ≡ (get_or mid k 0 + a * get_or y k 0) % p → IsAddedBelow (plus_at p a x y) x (k + 1) (set mid k v)
added_one p a x y mid k v h inside is = record {
  long = length-set mid k v ∙ h.long;
  added = below_more (λ j. get_or (set mid k v) j 0 ≡ (get_or x j 0 + a * get_or y j 0) % p) k
      (λ j l. get_or-set_other mid k j v 0 (omega arith) ∙ h.added j l)
      (get_or-set_same mid k v 0 (omega (arith, h.long)) ∙ is ∙ ap (λ t. (t + a * get_or y k 0) % p) (h.kept k (omega arith)));
  kept = λ j l. get_or-set_other mid k j v 0 (omega arith) ∙ h.kept j (omega arith);
}

-- n entries from `at` on
pub added_more : (p a : ℕ) (x y mid v : List ℕ) (at n : ℕ) → IsAddedBelow (plus_at p a x y) x at mid → at + n ≤ length x → length v ≡ n →
    ((k : ℕ) → k < n → get_or v k 0 ≡ (get_or mid (at + k) 0 + a * get_or y (at + k) 0) % p) → IsAddedBelow (plus_at p a x y) x (at + n) (put_chunk at mid v)
added_more p a x y mid v at n h room long lanes = record {
  long = length-put_chunk at mid v ∙ h.long;
  added = λ k l. elim (cases_lt k at) [
    | inl low ↦ get_or-put_chunk_below at mid v k 0 low ∙ h.added k low
    | inr high ↦
        let place : at + (k - at) ≡ k = omega arith in
        let lane : k - at < n = omega arith in
        let is = get_or-put_chunk_at at mid v (k - at) 0 (omega arith) (omega (arith, h.long)) ∙ lanes (k - at) lane
        ∙ ap (λ t. (t + a * get_or y (at + (k - at)) 0) % p) (h.kept (at + (k - at)) (omega arith)) in
        subst (λ j. get_or (put_chunk at mid v) j 0 ≡ (get_or x j 0 + a * get_or y j 0) % p) place is
  ];
  kept = λ k l. get_or-put_chunk_above at mid v k 0 (omega arith) ∙ h.kept k (omega arith);
}

-- the entries from n on, as a part of their own
pub added_rest : (p a : ℕ) (x y mid part : List ℕ) (n : ℕ) → n ≤ length x → length y ≡ length x → IsAddedBelow (plus_at p a x y) x n mid →
    IsAddedBelow (plus_at p a (take (length mid - n) (drop n mid)) (take (length y - n) (drop n y))) (take (length mid - n) (drop n mid)) (length (take (length mid - n) (drop n mid))) part →
    put_mid n (length mid - n) mid part ≡ list_of (length x) (λ k. (get_or x k 0 + a * get_or y k 0) % p)
added_rest p a x y mid part n within long_y h rest =
    let f = λ (k : ℕ). (get_or x k 0 + a * get_or y k 0) % p in
    let long_front : length (take n mid) ≡ n = length-take-le n mid (omega (arith, h.long)) in
    let part_mid : take (length mid - n) (drop n mid) ≡ drop n mid = take_rest mid n in
    let part_y : take (length y - n) (drop n y) ≡ drop n y = take_rest y n in
    let long_part : length part ≡ length mid - n = rest.long ∙ ap length part_mid ∙ length-drop n mid in
    list_equal (length x) (put_mid n (length mid - n) mid part) (list_of (length x) f)
    (same_len_mid n (length mid - n) mid part rest.long ∙ h.long) (length_list_of (length x) f)
    (λ k l. elim (cases_lt k n) [
      | inl low ↦ get_or_append_left (take n mid) _ 0 k (omega arith) ∙ get_or-take n mid k 0 low ∙ h.added k low
      | inr high ↦
          let place : n + (k - n) ≡ k = omega arith in
          let inside : k - n < length part = omega (arith, h.long) in
          get_or-append_right (take n mid) _ n k 0 long_front high
          ∙ get_or_append_left part _ 0 (k - n) inside
          ∙ rest.added (k - n) (omega (arith, rest.long))
          ∙ (λ i. (get_or (part_mid i) (k - n) 0 + a * get_or (part_y i) (k - n) 0) % p)
          ∙ (λ i. (get_or-drop n mid (k - n) 0 i + a * get_or-drop n y (k - n) 0 i) % p)
          ∙ (λ i. (get_or mid (place i) 0 + a * get_or y (place i) 0) % p)
          ∙ ap (λ t. (t + a * get_or y k 0) % p) (h.kept k high)
    ] ∙ sym (at_list_of (length x) f k l))
