-- Columns under other numbers: a matrix narrowed to the columns named, and widened again.
use Rattle.std.proofs.Common.{ℕ, suc, ◌≡◌, ◌+◌, ◌-◌, ◌<◌, ◌≤◌, inl, inr, List, [], ◌∷◌, length, map, slice_index, sym, refl, ap, subst, ◌∙◌, arith}
use Rattle.std.proofs.lemmas.Bool.{cases_eq}
use Rattle.std.proofs.lemmas.List.{get_or-map, length-map}
use Rattle.std.proofs.lemmas.List.Edits.{get_or-between}
use Rattle.residue_words.specs.Matrix.{IsMatrix, Matrix, entry, list_of, row}
use Rattle.residue_words.proofs.Vectors.{at_list_of, entry_matrix_of, entry_residue, is_matrix_of, length_list_of, list_of_equal, matrix_equal, row_matrix_of}
use Rattle.column_lists.specs.declared.sizes.TheConstants.{LARGEST_SIZE}
use Rattle.sparse_rows.specs.Rows.{AreEnough, narrowed, widened}
use Rattle.column_lists.specs.Numbers.{AreRising}
use Rattle.column_lists.specs.Parts.{AreStarts, part}
use Rattle.sparse_rows.specs.Stored.{IsSparse, IsStored, entry_at, spread, stored_matrix, stored_row}
use Rattle.sparse_rows.proofs.Loops.{sized}
use Rattle.sparse_rows.proofs.Spread.{at_spread, entry_cover, entry_head, entry_here, entry_tail, length_spread}
use Rattle.matrix_cells.proofs.Ordered.{map_range_equal}
use Rattle.column_lists.proofs.Parts.{length_part, starts_below, part_map}
use Rattle.sparse_rows.proofs.Stored.{row_stored}
use Rattle.column_lists.proofs.Occurrences.{contained}
use Rattle.sparse_rows.proofs.Transposed.{columns_below}
use Rattle.column_lists.specs.Columns.{ArePlaces}
use Rattle.column_lists.proofs.Rising.{rising_short, rising_order, rising_once}

-- a renamed column
at_named : (named cs : List ℕ) (k : ℕ) → k < length cs → slice_index (map (slice_index named) cs) k ≡ slice_index named (slice_index cs k)
at_named named cs k l = get_or-map (slice_index named) cs k 0 0 l

module _ (named : List ℕ) (up : AreRising named) where
  -- the entry at a named column is that at its place
  pub entry_named : (cs vs : List ℕ) (k : ℕ) → ((t : ℕ) → t < length cs → slice_index cs t < length named) → k < length named →
      entry_at (map (slice_index named) cs) vs (slice_index named k) ≡ entry_at cs vs k
  entry_named [] vs k below l = refl
  entry_named (c ∷ cs) [] k below l = refl
  entry_named (c ∷ cs) (v ∷ vs) k below l = elim (cases_eq c k) [
    | inl e ↦ subst (λ t. entry_at (map (slice_index named) (c ∷ cs)) (v ∷ vs) (slice_index named t) ≡ entry_at (c ∷ cs) (v ∷ vs) t) e
        (entry_head (slice_index named c) (map (slice_index named) cs) v vs ∙ sym (entry_head c cs v vs))
    | inr d ↦
        entry_tail (slice_index named c) (map (slice_index named) cs) v vs (slice_index named k) (λ q. d (rising_once named up c k (below 0 (omega arith)) l q))
        ∙ entry_named cs vs k (λ t b. below (suc t) (omega arith)) l ∙ sym (entry_tail c cs v vs k d)
  ]

  -- a row whose columns are renamed has its entries at the named columns
  pub entry_widened : (n : ℕ) (cs vs : List ℕ) (j : ℕ) → n ≡ length named → ((t : ℕ) → t < length cs → slice_index cs t < length named) →
      entry_at (map (slice_index named) cs) vs j ≡ entry_at named (spread n cs vs) j
  entry_widened n cs vs j many below =
      let long : length named ≡ length (spread n cs vs) = sym many ∙ sym (length_spread n cs vs) in
      let at : (k : ℕ) → k < length named → entry_at (map (slice_index named) cs) vs (slice_index named k) ≡ entry_at named (spread n cs vs) (slice_index named k) = λ k l.
      entry_named cs vs k below l ∙ sym (entry_here named (spread n cs vs) long up k l ∙ at_spread n cs vs k (omega arith)) in
      elim (entry_cover named (spread n cs vs) j) [
        | inr w ↦ subst (λ t. entry_at (map (slice_index named) cs) vs t ≡ entry_at named (spread n cs vs) t) w.2 (at w.0 w.1)
        | inl z ↦ elim (entry_cover (map (slice_index named) cs) vs j) [
          | inl y ↦ y ∙ sym z
          | inr w ↦
              let l : w.0 < length cs = omega (arith, w.1, length-map cs (slice_index named)) in
              subst (λ t. entry_at (map (slice_index named) cs) vs t ≡ entry_at named (spread n cs vs) t) (sym (at_named named cs w.0 l) ∙ w.2)
              (at (slice_index cs w.0) (below w.0 l))
        ]
      ]

  module _ (p : ℕ) (cs vs : List ℕ) (below : (t : ℕ) → t < length cs → slice_index cs t < length named) where
    sparse_widened : (n : ℕ) → ((k : ℕ) → k < length named → slice_index named k < n) → IsSparse p (length named) cs vs → IsSparse p n (map (slice_index named) cs) vs
    sparse_widened n small s = record {
      long = length-map cs (slice_index named) ∙ s.long;
      rising = λ k t a b.
          let l : t < length cs = omega (arith, b, length-map cs (slice_index named)) in
          omega (
            arith,
            at_named named cs k (omega arith),
            at_named named cs t l,
            up (slice_index cs k) (slice_index cs t) (s.rising k t a l) (below t l),
          );
      below = λ k b.
          let l : k < length cs = omega (arith, b, length-map cs (slice_index named)) in
          omega (arith, at_named named cs k l, small (slice_index cs k) (below k l));
      positive = s.positive;
      residues = s.residues;
    }

    sparse_narrowed : (n : ℕ) → IsSparse p n (map (slice_index named) cs) vs → IsSparse p (length named) cs vs
    sparse_narrowed n s = record {
      long = sym (length-map cs (slice_index named)) ∙ s.long;
      rising = λ k t a b. rising_order named up (slice_index cs k) (slice_index cs t) (below k (omega arith)) (below t b)
          (omega (arith, at_named named cs k (omega arith), at_named named cs t b, s.rising k t a (omega (arith, length-map cs (slice_index named)))));
      below = below;
      positive = s.positive;
      residues = s.residues;
    }

  module _ (p n : ℕ) (starts cs vs : List ℕ) (below : (t : ℕ) → t < length cs → slice_index cs t < length named)
      (small : (k : ℕ) → k < length named → slice_index named k < n) where
    -- so are those of each row
    below_part : (i : ℕ) → i < length starts - 1 → AreStarts (length starts - 1) (length cs) starts → (t : ℕ) → t < length (part starts cs i) → slice_index (part starts cs i) t < length named
    unfolding part
    below_part i l s t b =
        let a : ℕ = slice_index starts i in
        let end : ℕ = slice_index starts (i + 1) in
        let long : length (part starts cs i) + a ≡ end = length_part cs s i l in
        let within : end ≤ length cs = starts_below s (i + 1) (omega arith) in
        let here : slice_index (part starts cs i) t ≡ slice_index cs (a + t) = get_or-between cs a end t 0 (omega arith) in
        omega (arith, here, below (a + t) (omega arith))

    same_starts : AreStarts (length starts - 1) (length cs) starts → AreStarts (length starts - 1) (length (map (slice_index named) cs)) starts
    same_starts s = subst (λ t. AreStarts (length starts - 1) t starts) (sym (length-map cs (slice_index named))) s

    pub stored_widened : n ≤ LARGEST_SIZE → IsStored p (length named) starts cs vs → IsStored p n starts (map (slice_index named) cs) vs
    stored_widened room s = record {
      height_small = s.height_small;
      width_small = room;
      two_or_more = s.two_or_more;
      in_range = s.in_range;
      parts = same_starts s.parts;
      long = length-map cs (slice_index named) ∙ s.long;
      each = λ i l. subst (λ t. IsSparse p n t (part starts vs i)) (sym (part_map (slice_index named) starts cs i))
          (sparse_widened p (part starts cs i) (part starts vs i) (below_part i l s.parts) n small (s.each i l));
    }

    pub matrix_widened : IsStored p (length named) starts cs vs →
        stored_matrix n starts (map (slice_index named) cs) vs ≡ widened (stored_matrix (length named) starts cs vs) n named
    unfolding stored_row spread
    matrix_widened s =
        let h : ℕ = length starts - 1 in
        let A : Matrix = stored_matrix (length named) starts cs vs in
        ap (sized h n) (map_range_equal (stored_row n starts (map (slice_index named) cs) vs) (λ i. list_of n (entry_at named (row A i))) 0 h (λ i a b.
        list_of_equal n (entry_at (part starts (map (slice_index named) cs) i) (part starts vs i)) (entry_at named (row A i)) (λ j l.
        ap (λ t. entry_at t (part starts vs i) j) (part_map (slice_index named) starts cs i)
        ∙ entry_widened (length named) (part starts cs i) (part starts vs i) j refl (below_part i (omega arith) s.parts)
        ∙ sym (ap (λ r. entry_at named r j) (row_stored (length named) starts cs vs i (omega arith))))))

    pub stored_narrowed : length named ≤ LARGEST_SIZE → IsStored p n starts (map (slice_index named) cs) vs → IsStored p (length named) starts cs vs
    stored_narrowed room s =
        let parts : AreStarts (length starts - 1) (length cs) starts = subst (λ t. AreStarts (length starts - 1) t starts) (length-map cs (slice_index named)) s.parts in
        record {
          height_small = s.height_small;
          width_small = room;
          two_or_more = s.two_or_more;
          in_range = s.in_range;
          parts = parts;
          long = sym (length-map cs (slice_index named)) ∙ s.long;
          each = λ i l. sparse_narrowed p (part starts cs i) (part starts vs i) (below_part i l parts) n
              (subst (λ t. IsSparse p n t (part starts vs i)) (part_map (slice_index named) starts cs i) (s.each i l));
        }

    pub matrix_narrowed : IsStored p n starts (map (slice_index named) cs) vs →
        stored_matrix (length named) starts cs vs ≡ narrowed (stored_matrix n starts (map (slice_index named) cs) vs) named
    unfolding stored_row spread
    matrix_narrowed s =
        let h : ℕ = length starts - 1 in
        let w : ℕ = length named in
        let parts : AreStarts (length starts - 1) (length cs) starts = subst (λ t. AreStarts (length starts - 1) t starts) (length-map cs (slice_index named)) s.parts in
        let A : Matrix = stored_matrix n starts (map (slice_index named) cs) vs in
        ap (sized h w) (map_range_equal (stored_row w starts cs vs) (λ i. list_of w (λ k. entry A i (slice_index named k))) 0 h (λ i a b.
        list_of_equal w (entry_at (part starts cs i) (part starts vs i)) (λ k. entry A i (slice_index named k)) (λ k l.
        sym (
        ap (λ r. slice_index r (slice_index named k)) (row_stored n starts (map (slice_index named) cs) vs i (omega arith))
        ∙ at_spread n (part starts (map (slice_index named) cs) i) (part starts vs i) (slice_index named k) (small k l)
        ∙ ap (λ t. entry_at t (part starts vs i) (slice_index named k)) (part_map (slice_index named) starts cs i)
        ∙ entry_named (part starts cs i) (part starts vs i) k (below_part i (omega arith) parts) l
        ))))

-- what is widened again is as before
pub widened_narrowed : (p : ℕ) (A : Matrix) (columns : List ℕ) → IsMatrix p A → AreEnough A columns → widened (narrowed A columns) A.width columns ≡ A
widened_narrowed p A columns m enough =
    let N : Matrix = narrowed A columns in
    let w : ℕ = length columns in
    let cut : (i : ℕ) → i < A.height → row N i ≡ list_of w (λ k. entry A i (slice_index columns k)) = λ i l. row_matrix_of A.height w (λ i k. entry A i (slice_index columns k)) i l in
    let at : (i j : ℕ) → i < A.height → j < A.width → entry_at columns (row N i) j ≡ entry A i j = λ i j l b.
    let long : length columns ≡ length (row N i) = sym (ap length (cut i l) ∙ length_list_of w _) in
    let named : (k : ℕ) → k < w → entry_at columns (row N i) (slice_index columns k) ≡ entry A i (slice_index columns k) = λ k q.
    entry_here columns (row N i) long enough.rising k q ∙ ap (λ r. slice_index r k) (cut i l) ∙ at_list_of w (λ k. entry A i (slice_index columns k)) k q in
    elim (entry_cover columns (row N i) j) [
      | inr q ↦ subst (λ t. entry_at columns (row N i) t ≡ entry A i t) q.2 (named q.0 q.1)
      | inl z ↦ elim (cases_eq (entry A i j) 0) [
        | inl e ↦ z ∙ sym e
        | inr d ↦
            let q = contained columns j (enough.all i j l b d) in
            subst (λ t. entry_at columns (row N i) t ≡ entry A i t) q.2 (named q.0 q.1)
      ]
    ] in
    matrix_equal p (widened N A.width columns) A
    (is_matrix_of p A.height A.width (λ i. entry_at columns (row N i)) (λ i j l b. omega (arith, at i j l b, entry_residue p A m i j l b))) m refl refl
    (λ i j l b. entry_matrix_of A.height A.width (λ i. entry_at columns (row N i)) i j l b ∙ at i j l b)

-- the columns of what is stored, by the place of each among the columns named
pub widened_stored : (p w n : ℕ) (named starts cs vs starts' cs' vs' : List ℕ) → AreRising named → ((k : ℕ) → k < length named → slice_index named k < n) → n ≤ LARGEST_SIZE →
    IsStored p w starts cs vs → w ≡ length named → starts' ≡ starts → cs' ≡ map (slice_index named) cs → vs' ≡ vs →
    IsStored p n starts' cs' vs' × (stored_matrix n starts' cs' vs' ≡ widened (stored_matrix w starts cs vs) n named)
widened_stored p w n named starts cs vs starts' cs' vs' up small room s many es ec ev =
    let stored : IsStored p (length named) starts cs vs = subst (λ t. IsStored p t starts cs vs) many s in
    let below : (t : ℕ) → t < length cs → slice_index cs t < length named = columns_below stored in
    rw (es, ec, ev, many) (
      stored_widened named up p n starts cs vs below small room stored,
      matrix_widened named up p n starts cs vs below small stored,
    )

-- and the other way round
pub narrowed_stored : (p n : ℕ) (named starts cs vs starts' cs' vs' : List ℕ) → AreEnough (stored_matrix n starts cs vs) named →
    IsStored p n starts cs vs → starts' ≡ starts → ArePlaces named cs cs' → vs' ≡ vs →
    IsStored p (length named) starts' cs' vs' × (stored_matrix (length named) starts' cs' vs' ≡ narrowed (stored_matrix n starts cs vs) named)
narrowed_stored p n named starts cs vs starts' cs' vs' enough s es places ev =
    let stored : IsStored p n starts (map (slice_index named) cs') vs = rw places.are s in
    let few : length named ≤ LARGEST_SIZE = omega (arith, rising_short named n enough.rising enough.below, s.width_small) in
    rw (es, ev) (
      stored_narrowed named enough.rising p n starts cs' vs places.below enough.below few stored,
      matrix_narrowed named enough.rising p n starts cs' vs places.below enough.below stored
          ∙ ap (λ t. narrowed (stored_matrix n starts t vs) named) places.are,
    )
