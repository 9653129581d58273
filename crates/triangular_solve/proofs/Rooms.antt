-- The room in which a row is reduced, as the calls want it that split a row, eliminate and join what is left.
use Rattle.std.proofs.Common.{ℕ, ◌≡◌, ◌∙◌, List, ap, inl, inr, length, subst, sym}
use Rattle.std.proofs.lemmas.Bool.{cases_lt}
use Rattle.residue_words.specs.Matrix.{IsVector, zeros}
use Rattle.sparse_rows.specs.Rows.{ResidueRow}
use Rattle.sparse_rows.proofs.Loops.{length_zeros}
use Rattle.lead_rows.specs.Accumulator.{IsClear}
use Rattle.triangular_solve.specs.PivotRows.{AreColumnSums, AreDisjointParts, ArePlaced, IsEliminated, IsRoomFor, IsSplitRow, PlacedRows}

pub room_modulus : {placed : PlacedRows} {sums passed : ResidueRow} → IsRoomFor placed sums passed → passed.modulus ≡ sums.modulus
room_modulus room = room.modulus ∙ sym (ap (λ (r : ResidueRow). r.modulus) room.clear)

pub room_clear : {placed : PlacedRows} {sums passed : ResidueRow} → IsRoomFor placed sums passed → (columns : List ℕ) → columns ≡ placed.columns → IsClear sums.modulus (length columns) sums
room_clear {placed} {sums} {passed} room columns e =
    subst (λ p. IsClear p (length columns) sums) (sym (ap (λ (r : ResidueRow). r.modulus) room.clear))
    (subst (λ (xs : List ℕ). IsClear placed.rows.modulus (length xs) sums) (sym e) room.clear)

-- what a split leaves in clear sums
pub split_sums : {placed : PlacedRows} {sums passed : ResidueRow} → IsRoomFor placed sums passed → (columns : List ℕ) → columns ≡ placed.columns → (new : ResidueRow) → new.modulus ≡ sums.modulus → IsVector sums.modulus (length columns) new.row →
    AreColumnSums placed new
split_sums {placed} {sums} {passed} room columns e new same vector =
    let p : sums.modulus ≡ placed.rows.modulus = ap (λ (r : ResidueRow). r.modulus) room.clear in
    record {
      modulus = same ∙ p;
      vector = subst (λ q. IsVector q (length placed.columns) new.row) p (subst (λ (xs : List ℕ). IsVector sums.modulus (length xs) new.row) e vector);
    }

-- a row of zeros is as long as it was made
pub zeros_long : {r : ResidueRow} {p : ℕ} (n : ℕ) → r ≡ record { modulus = p; row = zeros n } → length r.row ≡ n
zeros_long n e = ap (λ (r : ResidueRow). length r.row) e ∙ length_zeros n

pub zeros_row : {r : ResidueRow} {p : ℕ} (n : ℕ) → r ≡ record { modulus = p; row = zeros n } → r.row ≡ zeros (length r.row)
zeros_row n e = ap (λ (r : ResidueRow). r.row) e ∙ ap zeros (sym (zeros_long n e))

-- sums that are 0 at the pivots, and the entries that a split passed
pub disjoint_parts : {placed : PlacedRows} {v inner outer : List ℕ} → ArePlaced placed → (sums : List ℕ) → IsEliminated placed sums → IsSplitRow placed.columns v inner outer → AreDisjointParts placed.columns sums outer
disjoint_parts {placed} {v} {inner} {outer} P sums zero split = record {
  ascending = λ k t lt l n m. elim (cases_lt k placed.rows.matrix.height) [
    | inl pivot ↦ absurd (n (zero k pivot))
    | inr behind ↦ P.ascending k t behind lt l
  ];
  apart = split.none;
}
