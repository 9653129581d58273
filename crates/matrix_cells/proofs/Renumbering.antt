-- Cells in rows of other numbers.
use Rattle.std.proofs.Common.{ℕ, zero, suc, ◌≡◌, ◌+◌, ◌<◌, inl, inr, List, [], ◌∷◌, ◌++◌, length, map, take, cond, eqb, get_or, slice_index, sym, refl, ap, ap₂, ◌∙◌, arith}
use Rattle.std.specs.List.{All}
use Rattle.std.proofs.lemmas.Bool.{cases_eq, cond-true, cond-false, eq-eqb, ne_eqb}
use Rattle.std.proofs.lemmas.List.{get_or-map, length-map, length-take-le, take_more}
use Rattle.std.proofs.lemmas.List.Sums.{sum_by-cons}
use Rattle.matrix_cells.specs.declared.values_at_places.Cell.{Cell}
use Rattle.matrix_cells.specs.Cells.{column_of, place_of, renumbered, row_of, weight}
use Rattle.column_lists.specs.Numbers.{AreRising}
use Rattle.column_lists.proofs.Rising.{rising_once}

-- what stands for a cell that isn't there
abbrev pub none : Cell
none = record { place = 0; val = 0 }

-- rows of cells are below n as those of each cell are
pub rows_low : (cells : List Cell) (n : ℕ) → All (λ c. row_of c < n) cells → (k : ℕ) → k < length (map row_of cells) → slice_index (map row_of cells) k < n
rows_low cells n h k l =
    let inside : k < length cells = omega (arith, length-map cells row_of) in
    omega (arith, get_or-map row_of cells k none 0 inside, h k none inside)

-- a cell in another row
abbrev pub moved : ℕ → Cell → Cell
moved k c = record { place = place_of k (column_of c); val = c.val }

-- as many cells as before
pub length_renumbered : (ks : List ℕ) (cs : List Cell) → length ks ≡ length cs → length (renumbered ks cs) ≡ length cs
length_renumbered [] [] e = refl
length_renumbered [] (c ∷ cs) e = absurd (omega arith)
length_renumbered (k ∷ ks) [] e = absurd (omega arith)
length_renumbered (k ∷ ks) (c ∷ cs) e = ap suc (length_renumbered ks cs (omega arith))

-- each of them moved
pub at_renumbered : (ks : List ℕ) (cs : List Cell) (t : ℕ) (d : Cell) → length ks ≡ length cs → t < length cs → get_or (renumbered ks cs) t d ≡ moved (slice_index ks t) (get_or cs t d)
at_renumbered [] [] t d e l = absurd (omega arith)
at_renumbered [] (c ∷ cs) t d e l = absurd (omega arith)
at_renumbered (k ∷ ks) [] t d e l = absurd (omega arith)
at_renumbered (k ∷ ks) (c ∷ cs) zero d e l = refl
at_renumbered (k ∷ ks) (c ∷ cs) (suc t) d e l = at_renumbered ks cs t d (omega arith) (omega arith)

-- a cell more
pub renumbered_more : (ks : List ℕ) (cs : List Cell) (k : ℕ) (c : Cell) → length ks ≡ length cs → renumbered (ks ++ k ∷ []) (cs ++ c ∷ []) ≡ renumbered ks cs ++ moved k c ∷ []
renumbered_more [] [] k c e = refl
renumbered_more [] (b ∷ cs) k c e = absurd (omega arith)
renumbered_more (h ∷ ks) [] k c e = absurd (omega arith)
renumbered_more (h ∷ ks) (b ∷ cs) k c e = ap (λ t. moved h b ∷ t) (renumbered_more ks cs k c (omega arith))

-- the weight at a place is that of the row that it stands for
pub weight_moved : (rows : List ℕ) → AreRising rows → (r j : ℕ) → r < length rows → j < 4294967296 → (ks : List ℕ) (cs : List Cell) → length ks ≡ length cs →
    ((t : ℕ) → t < length cs → slice_index ks t < length rows) → ((t : ℕ) → t < length cs → slice_index rows (slice_index ks t) ≡ row_of (get_or cs t none)) →
    weight (place_of r j) (renumbered ks cs) ≡ weight (place_of (slice_index rows r) j) cs
weight_moved rows up r j l b [] [] e low at = refl
weight_moved rows up r j l b [] (c ∷ cs) e low at = absurd (omega arith)
weight_moved rows up r j l b (k ∷ ks) [] e low at = absurd (omega arith)
weight_moved rows up r j l b (k ∷ ks) (c ∷ cs) e low at =
    let i : ℕ = slice_index rows r in
    let here : slice_index rows k ≡ row_of c = at 0 (omega arith) in
    let first : cond (eqb (place_of k (column_of c)) (place_of r j)) c.val 0 ≡ cond (eqb c.place (place_of i j)) c.val 0 =
    elim (cases_eq (place_of k (column_of c)) (place_of r j)) [
      | inl q ↦
          let same : k ≡ r = omega arith in
          let row : slice_index rows k ≡ i = ap (slice_index rows) same in
          cond-true _ c.val 0 (eq-eqb _ _ q) ∙ sym (cond-true _ c.val 0 (eq-eqb c.place (place_of i j) (omega arith)))
      | inr d ↦ cond-false _ c.val 0 (ne_eqb _ _ d) ∙ sym (cond-false _ c.val 0 (ne_eqb c.place (place_of i j) (λ q.
          let same : k ≡ r = rising_once rows up k r (low 0 (omega arith)) l (omega arith) in
          d (omega arith))))
    ] in
    sum_by-cons (λ b. cond (eqb b.place (place_of r j)) b.val 0) (moved k c) (renumbered ks cs)
    ∙ ap₂ ◌+◌ first (weight_moved rows up r j l b ks cs (omega arith) (λ t q. low (suc t) (omega arith)) (λ t q. at (suc t) (omega arith)))
    ∙ sym (sum_by-cons (λ b. cond (eqb b.place (place_of i j)) b.val 0) c cs)

-- a step of the loop that makes them
pub renumbered_next : (ks : List ℕ) (cs : List Cell) (k : ℕ) (made next : List Cell) (c : Cell) (column : ℕ) (d : Cell) → length ks ≡ length cs → k < length cs → made ≡ renumbered (take k ks) (take k cs) →
    next ≡ made ++ c ∷ [] → c.place ≡ place_of (slice_index ks k) column → c.val ≡ (get_or cs k d).val → column ≡ column_of (get_or cs k d) → next ≡ renumbered (take (k + 1) ks) (take (k + 1) cs)
renumbered_next ks cs k made next c column d e l so_far push place val col =
    let b : Cell = get_or cs k d in
    let same : c ≡ moved (slice_index ks k) b = ap₂ cell (place ∙ ap (place_of (slice_index ks k)) col) val in
    let long : length (take k ks) ≡ length (take k cs) = length-take-le k ks (omega arith) ∙ sym (length-take-le k cs (omega arith)) in
    push ∙ ap₂ (λ xs x. xs ++ x ∷ []) so_far same ∙ sym (ap₂ renumbered (take_more ks k 0 (omega arith)) (take_more cs k d l) ∙ renumbered_more (take k ks) (take k cs) (slice_index ks k) b long)
  where
    cell : ℕ → ℕ → Cell
    cell p v = record { place = p; val = v }
