-- Rows that show a row space, round by round.
use Rattle.std.proofs.Common.{ℕ, ◌≡◌, ◌+◌, ◌<◌, ◌≤◌, ◌∙◌, List, slice_index, sym, ap, subst, arith}
use Rattle.residue_words.specs.declared.plain.Pair.{Pair}
use Rattle.residue_words.specs.Residues.{IsPrime}
use Rattle.residue_words.specs.Matrix.{Matrix, IsMatrix}
use Rattle.row_space.specs.Echelon.{IsIndependent, SameSpan}
use Rattle.row_space.proofs.Counting.{independent_height}
use Rattle.row_space.proofs.Spans.{places_independent}
use Rattle.sparse_rows.specs.Rows.{ResidueMatrix, above, LARGEST_SIZE}
use Rattle.pivot_table.specs.Order.{Triangular}
use Rattle.triangular_solve.specs.Reduced.{IsComplement}
use Rattle.triangular_solve.specs.Triangle.{TriangleState}
use Rattle.dense_finish.specs.Factors.{IsRightFactored}
use Rattle.dense_finish.specs.declared.right_factor.RightFactor.{RightFactor}
use Rattle.echelon_form.specs.Form.{Form, IsFormOf}
use Rattle.schur_rows.specs.RestBasis.{IsRestBasis}
use Rattle.schur_rows.specs.Round.{FitsComplement, pivot_rows}
use Rattle.schur_rows.proofs.FactorRows.{factor_rows_independent, factor_rows_span}
use Rattle.schur_rows.proofs.Spanning.{round_spanned}
use Rattle.pluq_factor.specs.Basis.{IsBasis}
use Rattle.pluq_factor.specs.RoundPivots.{IsBasisRound, IsRestOf, triangle_on}
use Rattle.pluq_factor.specs.declared.basis_round.BasisRound.{BasisRound}
use Rattle.pluq_factor.specs.declared.rest.Rest.TheVariants.{Stored, Basis}

-- the rows of the right factor are a basis
pub basis_finished : {p : ℕ} {A : Matrix} {f : RightFactor} → IsMatrix p A → IsRightFactored p A f → IsBasis p A f.u
basis_finished m (L, h) = record {
  modulus = h.right_modulus;
  width = h.fit.right_width;
  independent = λ prime. factor_rows_independent prime m (h.factors prime);
  span = λ prime. factor_rows_span prime m (h.factors prime);
}

-- the rows of an echelon form are a basis
pub basis_form : {p : ℕ} {A : Matrix} {f : Form} {U : ResidueMatrix} → IsFormOf p A f → U.modulus ≡ f.modulus → U.matrix ≡ f.matrix → IsBasis p A U
basis_form {p} {A} {f} {U} h modulus same =
    let at : IsBasis p A (record { modulus = U.modulus; matrix = f.matrix }) = record {
      modulus = modulus ∙ h.modulus;
      width = h.width;
      independent = λ prime. let two = prime.two_or_more in
          places_independent p (λ j lead. j < lead) f.matrix (slice_index f.leads) (omega arith) h.leads.1;
      span = λ prime. (h.rref prime).span;
    } in
    subst (λ M. IsBasis p A (record { modulus = U.modulus; matrix = M })) (sym same) at

-- the pivots' rows of a triangle, and what these leave
pub round_of : {t s u : TriangleState} {R : ResidueMatrix} {r : BasisRound} → R ≡ t.rows → s ≡ t → u ≡ t → IsMatrix R.modulus R.matrix → Triangular s.rows.matrix s.pairs →
    IsRestOf t r.rest → r.top.modulus ≡ u.rows.modulus → r.top.matrix ≡ pivot_rows u.rows.matrix u.pairs → IsBasisRound t.rows r
round_of {t} {s} {u} {R} {r} same_rows same_pairs same sound triangular rest modulus matrix = record {
  sound = subst (λ (R : ResidueMatrix). IsMatrix R.modulus R.matrix) same_rows sound;
  pairs = t.pairs;
  triangular = subst (λ (t : TriangleState). Triangular t.rows.matrix t.pairs) same_pairs triangular;
  modulus = modulus ∙ ap (λ (t : TriangleState). t.rows.modulus) same;
  top = matrix ∙ ap (λ (t : TriangleState). pivot_rows t.rows.matrix t.pairs) same;
  rest = rest;
}

-- independent rows with the row space of what pivots leave
pub record IsBasisBelow (R : ResidueMatrix) (qs : List Pair) (V : ResidueMatrix) : Type 0 where
  pub modulus : V.modulus ≡ R.modulus
  pub matrix : IsMatrix R.modulus V.matrix
  pub width : V.matrix.width ≡ R.matrix.width
  pub independent : IsPrime R.modulus → IsIndependent R.modulus V.matrix
  pub span : IsPrime R.modulus → (B : Matrix) × IsComplement R.modulus R.matrix qs B × SameSpan R.modulus B V.matrix

-- such are a basis that was made of what is left
pub below_made : {R : ResidueMatrix} {r : BasisRound} {U : ResidueMatrix} (h : IsBasisRound R r) → r.rest ≡ Basis U → IsBasisBelow R h.pairs U
below_made {R} {r} {U} h is = let rest : IsRestBasis (triangle_on R h.pairs) U = subst (IsRestOf (triangle_on R h.pairs)) is h.rest in record {
  modulus = rest.fits.modulus;
  matrix = rest.fits.matrix;
  width = rest.fits.width;
  independent = rest.independent;
  span = rest.span;
}

-- and one of the complement
pub below_stored : {R : ResidueMatrix} {r : BasisRound} {C V : ResidueMatrix} (h : IsBasisRound R r) → r.rest ≡ Stored C → IsMatrix V.modulus V.matrix → IsBasis C.modulus C.matrix V → IsBasisBelow R h.pairs V
below_stored {R} {r} {C} {V} h is mv basis =
    let rest : IsRestOf (triangle_on R h.pairs) (Stored C) = subst (IsRestOf (triangle_on R h.pairs)) is h.rest in
    let fits : FitsComplement (triangle_on R h.pairs) C = rest.0 in
    let at : IsBasis R.modulus C.matrix V = subst (λ p. IsBasis p C.matrix V) fits.modulus basis in record {
      modulus = at.modulus;
      matrix = subst (λ p. IsMatrix p V.matrix) at.modulus mv;
      width = at.width ∙ fits.width;
      independent = at.independent;
      span = λ prime. (C.matrix, rest.1 prime, at.span prime);
    }

-- the pivots' rows, with a basis of what they leave
module _ {R : ResidueMatrix} {r : BasisRound} {V : ResidueMatrix} (h : IsBasisRound R r) (below : IsBasisBelow R h.pairs V) where
  abbrev p : ℕ
  p = R.modulus

  abbrev A : Matrix
  A = R.matrix

  abbrev N : Matrix
  N = above (pivot_rows A h.pairs) V.matrix

  both : IsPrime p → IsIndependent p N × SameSpan p A N
  both prime =
      let left = below.span prime in
      round_spanned p A h.pairs left.0 V.matrix prime h.sound h.triangular left.1 below.matrix below.width (below.independent prime) left.2

  -- the pivot rows and these are no more than the matrix's rows, so they fit
  pub basis_few : IsPrime p → r.top.matrix.height + V.matrix.height ≤ A.height
  basis_few prime =
      let e = both prime in
      omega (arith, ap (λ (M : Matrix). M.height) h.top, independent_height p N A prime.two_or_more e.0 (λ v c. (e.1 v).1 c))

  pub basis_joined : {W : ResidueMatrix} → A.height ≤ LARGEST_SIZE → W.modulus ≡ r.top.modulus → W.matrix.width ≡ r.top.matrix.width → (r.top.matrix.height + V.matrix.height ≤ LARGEST_SIZE → W.matrix ≡ above r.top.matrix V.matrix) → IsBasis p A W
  basis_joined {W} small modulus width stacked =
      let same : IsPrime p → W.matrix ≡ N = λ prime. stacked (omega (arith, basis_few prime)) ∙ ap (λ T. above T V.matrix) h.top in
      record {
        modulus = modulus ∙ h.modulus;
        width = width ∙ ap (λ (M : Matrix). M.width) h.top;
        independent = λ prime. subst (IsIndependent p) (sym (same prime)) (both prime).0;
        span = λ prime. subst (SameSpan p A) (sym (same prime)) (both prime).1;
      }

  -- modulus and width are those of the pivots' rows
  pub below_modulus : r.top.modulus ≡ V.modulus
  below_modulus = h.modulus ∙ sym below.modulus

  pub below_width : r.top.matrix.width ≡ V.matrix.width
  below_width = ap (λ (M : Matrix). M.width) h.top ∙ sym below.width
