-- All rows of a round.
use Rattle.std.proofs.Common.{ℕ, ◌≡◌, ◌≢◌, ◌+◌, ◌*◌, ◌%◌, ◌<◌, ◌∙◌, Bool, true, eqb, ◌==◌, if◌then◌else◌, eq-eqb, ne_eqb, inl, inr, List, length, slice_index, sym, refl, ap, ap₂, subst, arith, mod-eq_of_lt, one-mul, zero-mul}
use Rattle.std.proofs.lemmas.Bool.{cond-false, cond-true}
use Rattle.residue_words.specs.Residues.{IsPrime, sum_below}
use Rattle.residue_words.specs.Matrix.{Matrix, IsMatrix, entry, row}
use Rattle.residue_words.proofs.Sums.{sum_single}
use Rattle.residue_words.proofs.Vectors.{at_list_of, at_zeros, entry_residue}
use Rattle.row_space.specs.Factors.{row_at, col_at}
use Rattle.row_space.specs.Inverse.{unit}
use Rattle.sparse_rows.specs.Rows.{ResidueMatrix}
use Rattle.pivot_table.specs.Order.{Triangular}
use Rattle.triangular_solve.specs.Reduced.{IsComplement, IsReduced}
use Rattle.triangular_solve.specs.Triangle.{TriangleState}
use Rattle.schur_rows.specs.Parts.{IsPartTo, IsRowOfRound}
use Rattle.schur_rows.specs.Round.{FitsRound, IsRound}
use Rattle.schur_rows.specs.declared.round.SchurRows.{SchurRows}
use Rattle.schur_rows.proofs.Unique.{pivot_or_not}

pub sound_of : {R S : ResidueMatrix} → R ≡ S → IsMatrix R.modulus R.matrix → IsMatrix S.modulus S.matrix
sound_of same sound = subst (λ (T : ResidueMatrix). IsMatrix T.modulus T.matrix) same sound

unit_same : (r k : ℕ) → k < r → slice_index (unit r k) k ≡ 1
unit_same r k l = at_list_of r (λ j. if j == k then 1 else 0) k l ∙ cond-true {A = ℕ} (eqb k k) 1 0 (eq-eqb k k refl)

unit_other : (r k i : ℕ) → i < r → i ≢ k → slice_index (unit r k) i ≡ 0
unit_other r k i l d = at_list_of r (λ j. if j == k then 1 else 0) i l ∙ cond-false {A = ℕ} (eqb i k) 1 0 (ne_eqb i k d)

-- what holds of a reducer's triangle holds of the triangle
pub whole_of : {r t : TriangleState} {with_coefficients : Bool} {s : SchurRows} → r ≡ t → IsPartTo r with_coefficients 0 r.rows.matrix.height s → IsPartTo t with_coefficients 0 t.rows.matrix.height s
whole_of {r} {t} {with_coefficients} {s} e h = subst (λ (t : TriangleState). IsPartTo t with_coefficients 0 t.rows.matrix.height s) e h

pub whole_fits : {t : TriangleState} {with_coefficients : Bool} {s : SchurRows} → IsPartTo t with_coefficients 0 t.rows.matrix.height s → FitsRound t s
whole_fits h = record {
  rest = record { modulus = h.0.modulus; matrix = h.0.rest; height = omega (arith, h.1); width = h.0.width };
  modulus = h.0.coefficient_modulus;
  matrix = h.0.coefficients;
  height = omega (arith, h.1, h.0.height);
  width = h.0.coefficient_width;
}

module _ {t : TriangleState} {with_coefficients : Bool} {s : SchurRows} (tri : Triangular t.rows.matrix t.pairs) (h : IsPartTo t with_coefficients 0 t.rows.matrix.height s) where
  abbrev p : ℕ
  p = t.rows.modulus

  abbrev A : Matrix
  A = t.rows.matrix

  abbrev B : Matrix
  B = s.rows.matrix

  abbrev C : Matrix
  C = s.coefficients.matrix

  at : (i : ℕ) → i < A.height → IsRowOfRound t with_coefficients i (record { rest = row B i; coefficients = row C i })
  at i l = let plain : 0 + i ≡ i = omega arith in subst (λ x. IsRowOfRound t with_coefficients x (record { rest = row B i; coefficients = row C i })) plain (h.0.each i (omega (arith, h.1)))

  pivotal : (k j : ℕ) → k < length t.pairs → j < A.width → entry B (row_at t.pairs k) j ≡ 0
  pivotal k j l lj = ap (λ u. slice_index u j) ((at (row_at t.pairs k) (tri.nonzero k l).0).nothing (k, l, refl)) ∙ at_zeros A.width j lj

  pub whole_complement : IsPrime p → IsComplement p A t.pairs B
  whole_complement prime = record {
    matrix = h.0.rest;
    height = omega (arith, h.1);
    width = h.0.width;
    pivotal = pivotal;
    others = λ i l none. (at i l).left prime none;
  }

  module _ (on : with_coefficients ≡ true) where
    itself : (k : ℕ) → k < length t.pairs → row C (row_at t.pairs k) ≡ unit (length t.pairs) k
    itself k l = (at (row_at t.pairs k) (tri.nonzero k l).0).itself on k l refl

    -- a pivot row is split by its 1
    split_pivot : IsMatrix p A → (k : ℕ) → k < length t.pairs → IsReduced p A t.pairs (row A (row_at t.pairs k)) (record { rest = row B (row_at t.pairs k); coefficients = row C (row_at t.pairs k) })
    split_pivot m k l = record {
      zero = λ i li. pivotal k (col_at t.pairs i) l (tri.nonzero i li).1;
      sum = λ j lj.
          let e : ℕ → ℕ = λ i. entry A (row_at t.pairs i) j in
          let r : ℕ = length t.pairs in
          let c : List ℕ = row C (row_at t.pairs k) in
          let one : sum_below r (λ i. slice_index c i * e i) ≡ e k =
          sum_single r (λ i. slice_index c i * e i) k l (λ i li d. ap (λ x. x * e i) (ap (λ u. slice_index u i) (itself k l) ∙ unit_other r k i li d) ∙ zero-mul (e i))
          ∙ ap (λ x. x * e k) (ap (λ u. slice_index u k) (itself k l) ∙ unit_same r k l) ∙ one-mul (e k) in
          let plain : 0 + e k ≡ e k = omega arith in
          sym (ap₂ (λ a b. (a + b) % p) (pivotal k j l lj) one ∙ ap (λ x. x % p) plain ∙ mod-eq_of_lt (entry_residue p A m (row_at t.pairs k) j (tri.nonzero k l).0 lj));
    }

    pub whole : IsMatrix p A → IsPrime p → IsRound t s
    whole m prime = record {
      fits = whole_fits h;
      complement = whole_complement prime;
      one = λ k l. ap (λ u. slice_index u k) (itself k l) ∙ unit_same (length t.pairs) k l;
      alone = λ k i l li d. ap (λ u. slice_index u i) (itself k l) ∙ unit_other (length t.pairs) k i li d;
      each = λ i l. elim (pivot_or_not t.pairs i) [
        | inl w ↦ subst (λ i. IsReduced p A t.pairs (row A i) (record { rest = row B i; coefficients = row C i })) w.2 (split_pivot m w.0 w.1)
        | inr none ↦ (at i l).split on prime none
      ];
    }

pub whole_round : {t : TriangleState} {s : SchurRows} → IsMatrix t.rows.modulus t.rows.matrix → Triangular t.rows.matrix t.pairs → IsPrime t.rows.modulus → IsPartTo t true 0 t.rows.matrix.height s → IsRound t s
whole_round m tri prime h = whole tri h refl m prime
