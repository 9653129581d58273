-- Cells in another order, and those that are their own sums.
use Rattle.std.proofs.Common.{ℕ, ◌≡◌, ◌+◌, ◌%◌, ◌<◌, inl, inr, List, ◌++◌, get_or, length, subst, sym, take, ap, ◌∙◌, arith}
use Rattle.std.specs.List.{All}
use Rattle.std.specs.List.Sorted.{IsPermutation}
use Rattle.std.proofs.lemmas.List.{take_at}
use Rattle.std.proofs.lemmas.List.Elements.{All-get_or, All-weaker}
use Rattle.std.proofs.lemmas.List.Sorted.{All-permutation}
use native.Mathlib.Nat.{mod-eq_of_lt, zero-mod}
use Rattle.matrix_cells.specs.declared.values_at_places.Cell.{Cell}
use Rattle.matrix_cells.specs.Cells.{AreEntries, AreSums, IsWithin, weight}
use Rattle.matrix_cells.proofs.Cuts.{cell_at}
use Rattle.matrix_cells.proofs.Summing.{kept_places, weight_here, weight_none}

-- what a call made of a list's items, as it is read back
pub read_back : (items new back rest : List Cell) (n : ℕ) → back ≡ take n (new ++ rest) → length new ≡ length items → n ≡ length items → back ≡ new
read_back items new back rest n e l m = e ∙ take_at new rest n (omega arith)

-- so they are in another order
pub reordered : (items read new back rest : List Cell) (n : ℕ) → read ≡ items → IsPermutation read new → back ≡ take n (new ++ rest) → length new ≡ length read → n ≡ length items → IsPermutation items back
reordered items read new back rest n r s e l m = subst (λ xs. IsPermutation xs back) r (rw (read_back read new back rest n e l (m ∙ sym (ap length r))) s)

-- the sums lie where the cells lie
pub sums_within : (p m n : ℕ) (pushed sorted kept : List Cell) → IsPermutation pushed sorted → AreSums p sorted kept → All (IsWithin m n) pushed → All (IsWithin m n) kept
sums_within p m n pushed sorted kept same sums within =
    let P : ℕ → Type 0 = λ t. IsWithin m n record { place = t; val = 0 } in
    let here : All (λ c. P c.place) sorted = All-weaker (IsWithin m n) (λ c. P c.place) (λ c h. record { row = h.row; column = h.column }) sorted (All-permutation (IsWithin m n) pushed sorted same within) in
    All-weaker (λ c. P c.place) (IsWithin m n) (λ c h. record { row = h.row; column = h.column }) kept (kept_places p sorted kept P sums here)

-- entries are their own sums
pub entries_sums : (p : ℕ) (cells : List Cell) → AreEntries p cells → AreSums p cells cells
entries_sums p cells e = record {
  entries = e;
  sums = λ t. elim (cell_at t cells) [
    | inl none ↦ weight_none t cells none ∙ sym (ap (λ w. w % p) (weight_none t cells none) ∙ zero-mod p)
    | inr k ↦
        let d : Cell = record { place = 0; val = 0 } in
        let here : weight t cells ≡ (get_or cells k.0 d).val = ap (λ t. weight t cells) (sym (k.2 d)) ∙ weight_here p cells k.0 d e k.1 in
        let low : weight t cells < p = subst (λ w. w < p) (sym here) (All-get_or (λ c. c.val < p) cells k.0 d k.1 e.residues) in
        sym (mod-eq_of_lt low)
  ];
}
