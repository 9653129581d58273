-- Pairs with their index.
use Rattle.std.proofs.Common.{ℕ, zero, suc, ◌≡◌, ◌≢◌, ◌<◌, List, [], ◌∷◌, ◌++◌, length, map, slice_index, slice_set, inl, inr, ⊎_elim, sym, refl, ap, subst, ◌∙◌, arith}
use Rattle.std.specs.List.{Contains}
use Rattle.std.proofs.lemmas.Bool.{cases_eq}
use Rattle.std.proofs.lemmas.List.{length-set, get_or-set_same, get_or-set_other, length-map, map_push, length_push}
use Rattle.std.proofs.lemmas.List.Elements.{Contains-append_left, Contains-push, Contains-push_cases}
use Rattle.residue_words.specs.declared.plain.Pair.{Pair}
use Rattle.sparse_rows.specs.Rows.{ResidueMatrix}
use Rattle.pivot_table.specs.History.{pair, Nonzero, HasRow, HasCol}
use Rattle.residue_words.proofs.Lists.{not_in_nil, in_head, in_tail, in_cases}
use Rattle.pivot_walks.specs.Indexed.{AreIndexed}
use Rattle.pivot_walks.proofs.Marking.{distinct_push, fewer}

in_map : (f : Pair → ℕ) (h : List Pair) (r : ℕ) → Contains (map f h) r → (q : Pair) × Contains h q × (f q ≡ r)
in_map f [] r c = absurd (not_in_nil r c)
in_map f (x ∷ xs) r c = ⊎_elim
    (λ e. (x, in_head x xs, e))
    (λ d. let t = in_map f xs r d in (t.0, in_tail x xs t.0 t.1, t.2))
    (in_cases (f x) (map f xs) r c)

at_in : (f : Pair → ℕ) (h : List Pair) (k : ℕ) → k < length h → (q : Pair) × Contains h q × (f q ≡ slice_index (map f h) k)
at_in f [] k l = absurd (omega arith)
at_in f (x ∷ xs) zero l = (x, in_head x xs, refl)
at_in f (x ∷ xs) (suc k) l = let t = at_in f xs k (omega arith) in (t.0, in_tail x xs t.0 t.1, t.2)

module _ (f : Pair → ℕ) (h : List Pair) (apart : (k t : ℕ) → k < t → t < length h → slice_index (map f h) k ≢ slice_index (map f h) t) (q : Pair) (fresh : ¬ ((p : Pair) × Contains h p × (f p ≡ f q))) where
  distinct : (k t : ℕ) → k < t → t < length (map f h) → slice_index (map f h) k ≢ slice_index (map f h) t
  distinct k t less l = apart k t less (omega (arith, length-map h f))

  apart_push : (k t : ℕ) → k < t → t < length (h ++ q ∷ []) → slice_index (map f (h ++ q ∷ [])) k ≢ slice_index (map f (h ++ q ∷ [])) t
  apart_push k t less l = let e = map_push f h q in
      subst (λ xs. slice_index xs k ≢ slice_index xs t) (sym e)
      (distinct_push (map f h) (f q) distinct (λ c. fresh (in_map f h (f q) c)) k t less (omega (arith, length-map h f, length_push h q, length_push (map f h) (f q))))

  fewer_pairs : (n : ℕ) → ((p : Pair) → Contains h p → f p < n) → f q < n → length h < n
  fewer_pairs n inside l = omega (
    arith,
    length-map h f,
    fewer (map f h) (f q) distinct (λ c. fresh (in_map f h (f q) c)) n
        (λ k lk. let t = at_in f h k (omega (arith, length-map h f)) in subst (λ x. x < n) t.2 (inside t.0 t.1)) l,
  )

module _ {m : ResidueMatrix} {h : List Pair} {index : List ℕ} {room : ℕ} (i : AreIndexed m h index room) where
  pub has_room : (q : Pair) → Nonzero m.matrix q.row q.col → ¬ HasRow h q.row → ¬ HasCol h q.col → length h < room
  has_room q n fr fc =
      let a : length h < m.matrix.height = fewer_pairs (λ x. x.row) h i.rows_apart q fr m.matrix.height (λ x c. (i.inside x c).0) n.0 in
      let b : length h < m.matrix.width = fewer_pairs (λ x. x.col) h i.cols_apart q fc m.matrix.width (λ x c. (i.inside x c).1) n.1 in
      omega (arith, i.enough)

  pub found : (c v : ℕ) → c < m.matrix.width → v ≡ slice_index index c → v ≢ 4294967295 → Contains h (pair v c) × (v < m.matrix.height) × ((t : ℕ) → Contains h (pair t c) → t ≡ v)
  found c v l e n =
      let here : Contains h (pair v c) = subst (λ x. Contains h (pair x c)) (sym e) (i.some c l (λ z. n (e ∙ z))) in
      (here, (i.inside (pair v c) here).0, (λ t there. sym (i.every (pair t c) there) ∙ sym e))

  pub not_found : (c : ℕ) → c < m.matrix.width → slice_index index c ≡ 4294967295 → ¬ HasCol h c
  not_found c l e t =
      let row : slice_index index c ≡ t.0.row = ap (slice_index index) (sym t.2) ∙ i.every t.0 t.1 in
      absurd (omega (arith, (i.inside t.0 t.1).0, i.height_small))

  pub indexed : (q : Pair) → Nonzero m.matrix q.row q.col → ¬ HasRow h q.row → ¬ HasCol h q.col → AreIndexed m (h ++ q ∷ []) (slice_set index q.col q.row) room
  indexed q n fr fc = record {
    matrix = i.matrix;
    height_small = i.height_small;
    width_small = i.width_small;
    columns = length-set index q.col q.row ∙ i.columns;
    enough = i.enough;
    some = λ c l d. elim (cases_eq c q.col) [
      | inl e ↦
          let v : slice_index (slice_set index q.col q.row) c ≡ q.row = ap (slice_index (slice_set index q.col q.row)) e ∙ get_or-set_same index q.col q.row 0 (omega (arith, i.columns, n.1)) in
          subst (λ x. Contains (h ++ q ∷ []) (pair x c)) (sym v) (subst (λ x. Contains (h ++ q ∷ []) (pair q.row x)) (sym e) (Contains-push h q))
      | inr ne ↦
          let v : slice_index (slice_set index q.col q.row) c ≡ slice_index index c = get_or-set_other index q.col c q.row 0 ne in
          subst (λ x. Contains (h ++ q ∷ []) (pair x c)) (sym v) (Contains-append_left h (q ∷ []) (pair (slice_index index c) c) (i.some c l (λ z. d (v ∙ z))))
    ];
    every = λ x c. ⊎_elim
        (λ old. get_or-set_other index q.col x.col q.row 0 (λ e. fc (x, old, e)) ∙ i.every x old)
        (λ new. ap (λ (y : Pair). slice_index (slice_set index q.col q.row) y.col) (sym new) ∙ get_or-set_same index q.col q.row 0 (omega (arith, i.columns, n.1)) ∙ ap (λ (y : Pair). y.row) new)
        (Contains-push_cases h q x c);
    inside = λ x c. ⊎_elim (i.inside x) (λ new. subst (λ (y : Pair). Nonzero m.matrix y.row y.col) new n) (Contains-push_cases h q x c);
    rows_apart = apart_push (λ x. x.row) h i.rows_apart q fr;
    cols_apart = apart_push (λ x. x.col) h i.cols_apart q fc;
  }
