-- The matrix of what was pushed is that of the cells' sums.
use Rattle.std.proofs.Common.{ℕ, ◌≡◌, ◌+◌, ◌%◌, ◌<◌, ◌≤◌, ◌&&◌, true, inl, inr, List, [], ◌∷◌, ◌++◌, append_assoc, map, cond, eqb, subst, sym, refl, ap, ap₂, ◌∙◌, arith}
use Rattle.std.specs.List.Sorted.{IsPermutation}
use Rattle.std.proofs.lemmas.Bool.{cases_eq, cond-true, cond-false, eq-eqb, ne_eqb}
use Rattle.std.proofs.lemmas.List.Elements.{All-push}
use Rattle.std.proofs.lemmas.List.Sorted.{All-permutation, IsPermutation-refl, sum_by-IsPermutation}
use Rattle.std.proofs.lemmas.List.Sums.{sum_by-cons}
use Rattle.residue_words.specs.Matrix.{list_of}
use Rattle.residue_words.proofs.Vectors.{list_of_equal}
use Rattle.matrix_cells.specs.declared.values_at_places.Cell.{Cell}
use Rattle.matrix_cells.specs.Cells.{AreEntries, AreSums, IsWithin, column_of, place_of, row_of, weight}
use Rattle.sparse_rows.specs.Cells.{ArePushed, triple_of}
use Rattle.sparse_rows.specs.Rows.{built, matrix_by, sum_at}
use Rattle.matrix_cells.proofs.Ordered.{map_range_equal}
use Rattle.matrix_cells.proofs.Sums.{entries_sums}

-- equal entries make equal matrices
pub matrix_by_equal : (m n : ℕ) (f g : ℕ → ℕ → ℕ) → ((i j : ℕ) → i < m → j < n → f i j ≡ g i j) → matrix_by m n f ≡ matrix_by m n g
matrix_by_equal m n f g h = ap (λ r. record { height = m; width = n; rows = r }) (map_range_equal (λ i. list_of n (f i)) (λ i. list_of n (g i)) 0 m (λ i a b. list_of_equal n (f i) (g i) (λ j l. h i j (omega arith) l)))

-- a cell counts at its place alone
counted : (i j : ℕ) (c : Cell) → j < 4294967296 → cond (eqb (row_of c) i && eqb (column_of c) j) c.val 0 ≡ cond (eqb c.place (place_of i j)) c.val 0
counted i j c l = elim (cases_eq c.place (place_of i j)) [
  | inl e ↦
      let row : eqb (row_of c) i ≡ true = eq-eqb (row_of c) i (omega arith) in
      let column : eqb (column_of c) j ≡ true = eq-eqb (column_of c) j (omega arith) in
      ap₂ (λ x y. cond (x && y) c.val 0) row column ∙ sym (cond-true (eqb c.place (place_of i j)) c.val 0 (eq-eqb c.place (place_of i j) e))
  | inr d ↦
      sym (cond-false (eqb c.place (place_of i j)) c.val 0 (ne_eqb c.place (place_of i j) d) ∙ sym (elim (cases_eq (row_of c) i) [
        | inl r ↦
            ap₂ (λ x y. cond (x && y) c.val 0) (eq-eqb (row_of c) i r) (ne_eqb (column_of c) j (λ q. d (omega arith)))
        | inr r ↦ ap (λ x. cond (x && eqb (column_of c) j) c.val 0) (ne_eqb (row_of c) i r)
      ]))
]

-- so the sum of what was pushed at a place is the cells' weight there
sum_at_weight : (i j : ℕ) (cells : List Cell) → j < 4294967296 → sum_at i j (map triple_of cells) ≡ weight (place_of i j) cells
sum_at_weight i j [] l = refl
sum_at_weight i j (c ∷ cells) l = ap₂ ◌+◌ (counted i j c l) (sum_at_weight i j cells l) ∙ sym (sum_by-cons (λ c. cond (eqb c.place (place_of i j)) c.val 0) c cells)

-- and make the matrix that is built
pub sums_built : (p m n : ℕ) (pushed sorted kept : List Cell) → n ≤ 2147483648 → IsPermutation pushed sorted → AreSums p sorted kept →
    matrix_by m n (λ i j. weight (place_of i j) kept) ≡ built p m n (map triple_of pushed)
sums_built p m n pushed sorted kept small same sums = matrix_by_equal m n _ _ (λ i j a b.
    sums.sums (place_of i j) ∙ ap (λ t. t % p) (sum_by-IsPermutation (λ c. cond (eqb c.place (place_of i j)) c.val 0) pushed sorted same ∙ sym (sum_at_weight i j pushed (omega arith))))

-- what was pushed in another order makes the same matrix
pub built_reordered : (p m n : ℕ) (cells other : List Cell) → n ≤ 2147483648 → IsPermutation cells other → built p m n (map triple_of other) ≡ built p m n (map triple_of cells)
built_reordered p m n cells other small same = matrix_by_equal m n _ _ (λ i j a b.
    ap (λ t. t % p) (sum_at_weight i j other (omega arith) ∙ sum_by-IsPermutation (λ c. cond (eqb c.place (place_of i j)) c.val 0) cells other same ∙ sym (sum_at_weight i j cells (omega arith))))

pub pushed_reordered : (p m n : ℕ) (cells other : List Cell) → IsPermutation cells other → ArePushed p m n cells → ArePushed p m n other
pushed_reordered p m n cells other same h = record {
  height_small = h.height_small;
  width_small = h.width_small;
  two_or_more = h.two_or_more;
  in_range = h.in_range;
  within = All-permutation (IsWithin m n) cells other same h.within;
  residues = All-permutation (λ c. c.val < p) cells other same h.residues;
}

-- so they make the matrix that is built of them
pub entries_built : (p m n : ℕ) (cells : List Cell) → n ≤ 2147483648 → AreEntries p cells → matrix_by m n (λ i j. weight (place_of i j) cells) ≡ built p m n (map triple_of cells)
entries_built p m n cells small e = sums_built p m n cells cells cells small (IsPermutation-refl cells) (entries_sums p cells e)

-- one cell more behind others
pub pushed_more : (p m n : ℕ) (first cells : List Cell) (c : Cell) → ArePushed p m n (first ++ cells) → IsWithin m n c → c.val < p → ArePushed p m n (first ++ (cells ++ c ∷ []))
pushed_more p m n first cells c h within residue = subst (ArePushed p m n) (append_assoc first cells (c ∷ [])) (record {
  height_small = h.height_small;
  width_small = h.width_small;
  two_or_more = h.two_or_more;
  in_range = h.in_range;
  within = All-push (IsWithin m n) (first ++ cells) c h.within within;
  residues = All-push (λ c. c.val < p) (first ++ cells) c h.residues residue;
})
