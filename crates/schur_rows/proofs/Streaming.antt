-- A basis of what a round leaves, made chunk by chunk.
use Rattle.std.proofs.Common.{ℕ, ◌≡◌, ◌+◌, ◌<◌, ◌≤◌, ◌∙◌, Bool, false, List, [], ◌++◌, length, slice_index, sym, refl, ap, subst, arith}
use Rattle.std.proofs.lemmas.Bool.{false≢true}
use Rattle.std.proofs.lemmas.List.{nil_from_length}
use Rattle.residue_words.specs.Residues.{IsPrime}
use Rattle.residue_words.specs.Matrix.{Matrix, IsCombination, IsMatrix, IsVector, row, zeros}
use Rattle.residue_words.proofs.Vectors.{combination_through, row_combination, vector_equal, zeros_vector}
use Rattle.row_space.specs.Echelon.{HasRank, IsIndependent, SameSpan}
use Rattle.row_space.proofs.Counting.{independent_height, span_height}
use Rattle.row_space.proofs.Exists.{rref_of_each}
use Rattle.row_space.proofs.Rows.{rank_of_independent}
use Rattle.row_space.proofs.Spans.{places_independent, same_span_chained, same_span_of_rows}
use Rattle.sparse_rows.specs.Rows.{ResidueMatrix, above}
use Rattle.weight_order.specs.Turned.{HasFilledRows}
use Rattle.weight_order.proofs.Turning.{turned_few, turned_matrix, turned_span, turned_width}
use Rattle.pivot_table.specs.Order.{Triangular}
use Rattle.triangular_solve.specs.Triangle.{TriangleState}
use Rattle.dense_finish.specs.Factors.{IsRightFactored}
use Rattle.dense_finish.specs.declared.right_factor.RightFactor.{RightFactor}
use Rattle.echelon_form.specs.Form.{Form, IsFormOf}
use Rattle.schur_rows.specs.Parts.{IsPartTo}
use Rattle.schur_rows.specs.RestBasis.{IsBasisOf, IsBasisOfBoth, IsBasisUpTo, IsFullFor, IsInColumns, IsRestBasis}
use Rattle.schur_rows.specs.declared.round.SchurRows.{SchurRows}
use Rattle.schur_rows.proofs.Above.{above_first, above_matrix, above_second, each_of}
use Rattle.schur_rows.proofs.FactorRows.{factor_rows_independent, factor_rows_span, fit_few}
use Rattle.schur_rows.proofs.FullRank.{full_rank_spans}
use Rattle.schur_rows.proofs.Parting.{part_join, part_none}
use Rattle.schur_rows.proofs.Spanning.{round_ranked}
use Rattle.schur_rows.proofs.Whole.{whole_complement}

-- rows of P are combinations of those of Q, and the same rows are below both
module _ {p : ℕ} {P Q L : Matrix} (two : 2 ≤ p) (mp : IsMatrix p P) (mq : IsMatrix p Q) (ml : IsMatrix p L) (wide : L.width ≡ Q.width) (within : (v : List ℕ) → IsCombination p P v → IsCombination p Q v) where
  abbrev N : Matrix
  N = above Q L

  mn : IsMatrix p N
  mn = above_matrix mq ml wide

  upper : (i : ℕ) → i < Q.height → IsCombination p N (row Q i)
  upper i l = subst (IsCombination p N) (above_first L mq i l) (row_combination p N i two mn (omega arith))

  pub rows_within : (k : ℕ) → k < P.height + L.height → IsCombination p N (row (above P L) k)
  rows_within k l = each_of P.height L.height (λ k. IsCombination p N (row (above P L) k))
      (λ k a. subst (IsCombination p N) (sym (above_first L mp k a)) (combination_through p Q N (row P k) (omega arith) refl upper (within (row P k) (row_combination p P k two mp a))))
      (λ t a. subst (IsCombination p N) (above_second L mq t ∙ sym (above_second L mp t)) (row_combination p N (Q.height + t) two mn (omega arith)))
      k l

-- the same rows below two matrices of one row space
pub below_same : {p : ℕ} {P Q L : Matrix} → 2 ≤ p → IsMatrix p P → IsMatrix p Q → IsMatrix p L → Q.width ≡ P.width → L.width ≡ P.width → SameSpan p P Q → SameSpan p (above P L) (above Q L)
below_same {p} {P} {Q} {L} two mp mq ml wide below same =
    same_span_of_rows p (above P L) (above Q L) (omega arith) (sym wide)
    (rows_within two mp mq ml (below ∙ sym wide) (λ v. (same v).0))
    (rows_within two mq mp ml below (λ v. (same v).1))

-- the rows below none
pub below_none : {p : ℕ} {T U : Matrix} → IsMatrix p T → T.height ≡ 0 → U.width ≡ T.width → U ≡ above T U
below_none {p} {T} {U} m none wide =
    let empty : T.rows ≡ [] = nil_from_length T.rows (m.len ∙ none) in
    let height : U.height ≡ T.height + U.height = omega (arith, none) in
    let rows : U.rows ≡ T.rows ++ U.rows = sym (ap (λ r. r ++ U.rows) empty) in
    λ k. record { height = height k; width = wide k; rows = rows k }

-- no row is left of no row
pub basis_none : {t : TriangleState} {b : ResidueMatrix} {p n : ℕ} → 2 ≤ p → p ≡ t.rows.modulus → n ≡ t.rows.matrix.width → b.modulus ≡ p → b.matrix ≡ record { height = 0; width = n; rows = [] } → IsBasisUpTo t 0 b
basis_none {t} {b} {p} {n} two modulus width sound is =
    let none : ℕ → Matrix = λ n. record { height = 0; width = n; rows = [] } in
    let m : ℕ = t.rows.modulus in
    let big : 2 ≤ m = omega arith in
    let same : b.matrix ≡ none t.rows.matrix.width = is ∙ ap none width in
    let part : SchurRows = record {
      rows = record { modulus = m; matrix = none t.rows.matrix.width };
      coefficients = record { modulus = m; matrix = none (length t.pairs) };
    } in
    record {
      modulus = sound ∙ modulus;
      matrix = subst (IsMatrix m) (sym same) (record { len = refl; each = λ i l. absurd (omega arith) });
      width = ap (λ (M : Matrix). M.width) same;
      height = omega (arith, ap (λ (M : Matrix). M.height) same);
      part = part;
      is_part = part_none t false 0 {s = part} refl refl refl refl;
      independent = λ prime y vector e. vector_equal m b.matrix.height y (zeros b.matrix.height) vector (zeros_vector m b.matrix.height (omega arith))
          (λ k l. absurd (omega (arith, ap (λ (M : Matrix). M.height) same)));
      span = λ prime. subst (SameSpan m (none t.rows.matrix.width)) (sym same) (λ v. ((λ y. y), (λ y. y)));
    }

-- a part that may have coefficients is one without them
pub without_coefficients : {t : TriangleState} {with_coefficients : Bool} {from to : ℕ} {s : SchurRows} → IsPartTo t with_coefficients from to s → IsPartTo t false from to s
without_coefficients {t} {with_coefficients} {from} {to} {s} h = (
  record {
    modulus = h.0.modulus;
    rest = h.0.rest;
    width = h.0.width;
    coefficient_modulus = h.0.coefficient_modulus;
    coefficients = h.0.coefficients;
    coefficient_width = h.0.coefficient_width;
    height = h.0.height;
    each = λ x l. record {
      nothing = (h.0.each x l).nothing;
      itself = λ e. absurd (false≢true e);
      left = (h.0.each x l).left;
      split = λ e. absurd (false≢true e);
    };
  },
  h.1,
)

-- the right factor is a basis
basis_factored : {A : ResidueMatrix} {f : RightFactor} → IsMatrix A.modulus A.matrix → IsRightFactored A.modulus A.matrix f → IsBasisOf A f.u
basis_factored {A} {f} m factored = let h = factored.1 in record {
  modulus = h.right_modulus;
  matrix = h.fit.right;
  width = h.fit.right_width;
  height = omega (arith, fit_few h.fit, h.fit.right_height);
  independent = λ prime. factor_rows_independent prime m (h.factors prime);
  span = λ prime. factor_rows_span prime m (h.factors prime);
}

-- so are the rows of the form, of which there are no more
module _ {A U : ResidueMatrix} {f : Form} (m : IsMatrix A.modulus A.matrix) (h : IsFormOf A.modulus A.matrix f) (modulus : U.modulus ≡ f.modulus) (same : U.matrix ≡ f.matrix) where
  form_independent : IsPrime A.modulus → IsIndependent A.modulus U.matrix
  form_independent prime = subst (IsIndependent A.modulus) (sym same) (let two = prime.two_or_more in
      places_independent A.modulus (λ j lead. j < lead) f.matrix (slice_index f.leads) (omega arith) h.leads.1)

  form_span : IsPrime A.modulus → SameSpan A.modulus A.matrix U.matrix
  form_span prime = subst (SameSpan A.modulus A.matrix) (sym same) (h.rref prime).span

  pub basis_form : U.matrix.height ≤ A.matrix.height → IsBasisOf A U
  basis_form few = record {
    modulus = modulus ∙ h.modulus;
    matrix = subst (IsMatrix A.modulus) (sym same) h.matrix;
    width = ap (λ (M : Matrix). M.width) same ∙ h.width;
    height = few;
    independent = form_independent;
    span = form_span;
  }

  -- rows of which the form has more, which a prime modulus excludes, are a basis of themselves
  pub basis_itself : A.matrix.height < U.matrix.height → IsBasisOf A A
  basis_itself more = record {
    modulus = refl;
    matrix = m;
    width = refl;
    height = omega arith;
    independent = λ prime. absurd (omega (arith, more, independent_height A.modulus U.matrix A.matrix prime.two_or_more (form_independent prime) (λ v. (form_span prime v).1)));
    span = λ prime v. ((λ y. y), (λ y. y));
  }

-- a basis of rows that stand above each other is one of both
both_told : (A B S U : ResidueMatrix) → S.modulus ≡ A.modulus → S.matrix ≡ above A.matrix B.matrix → IsBasisOf S U → IsBasisOf (record { modulus = A.modulus; matrix = above A.matrix B.matrix }) U
both_told A B S U modulus is b =
    subst (λ M. IsBasisOf (record { modulus = A.modulus; matrix = M }) U) is (subst (λ q. IsBasisOf (record { modulus = q; matrix = S.matrix }) U) modulus b)

-- by a right factor
pub both_factored : (A B S : ResidueMatrix) {f : RightFactor} → B.matrix.width ≡ A.matrix.width → S.modulus ≡ A.modulus → S.matrix ≡ above A.matrix B.matrix → IsRightFactored S.modulus S.matrix f → IsBasisOfBoth A B f.u
both_factored A B S {f} wide modulus is factored ma mb =
    let sound : IsMatrix S.modulus S.matrix =
    subst (λ M. IsMatrix S.modulus M) (sym is) (subst (λ q. IsMatrix q (above A.matrix B.matrix)) (sym modulus) (above_matrix ma mb wide)) in
    both_told A B S f.u modulus is (basis_factored sound factored)

-- by rows T with the row space of A
pub both_turned : (A B T S U : ResidueMatrix) → HasFilledRows A T → B.matrix.width ≡ A.matrix.width → S.modulus ≡ T.modulus → S.matrix ≡ above T.matrix B.matrix → IsBasisOf S U → IsBasisOfBoth A B U
both_turned A B T S U turned wide modulus is found ma mb =
    let p : ℕ = A.modulus in
    let b : IsBasisOf (record { modulus = p; matrix = above T.matrix B.matrix }) U =
    subst (λ q. IsBasisOf (record { modulus = q; matrix = above T.matrix B.matrix }) U) turned.modulus (both_told T B S U modulus is found) in
    record {
      modulus = b.modulus;
      matrix = b.matrix;
      width = b.width ∙ turned_width turned;
      height = omega (arith, b.height, turned_few turned);
      independent = b.independent;
      span = λ prime. same_span_chained p (above A.matrix B.matrix) (above T.matrix B.matrix) U.matrix
          (below_same prime.two_or_more ma (turned_matrix turned) mb (turned_width turned) wide (turned_span turned prime)) (b.span prime);
    }

-- one chunk more
pub basis_more : {t : TriangleState} {from to : ℕ} {old next : ResidueMatrix} {left : SchurRows} → IsBasisUpTo t from old → IsPartTo t false from to left → IsBasisOfBoth old left.rows next → IsBasisUpTo t to next
basis_more {t} {from} {to} {old} {next} {left} h g found =
    let p : ℕ = t.rows.modulus in
    let P : Matrix = h.part.rows.matrix in
    let L : Matrix = left.rows.matrix in
    let both : SchurRows = record {
      rows = record { modulus = h.part.rows.modulus; matrix = above P L };
      coefficients = record { modulus = h.part.coefficients.modulus; matrix = above h.part.coefficients.matrix left.coefficients.matrix };
    } in
    let b : IsBasisOf (record { modulus = p; matrix = above old.matrix L }) next =
    subst (λ q. IsBasisOf (record { modulus = q; matrix = above old.matrix L }) next) h.modulus
    (found (subst (λ q. IsMatrix q old.matrix) (sym h.modulus) h.matrix) (subst (λ q. IsMatrix q L) (sym h.modulus) g.0.rest)) in
    record {
      modulus = b.modulus;
      matrix = b.matrix;
      width = b.width ∙ h.width;
      height = omega (arith, b.height, h.height, g.0.height, g.1);
      part = both;
      is_part = (
        part_join t false 0 from h.part left both h.is_part.0 g.0 h.is_part.1 (record { modulus = refl; rows = refl; coefficient_modulus = refl; coefficients = refl }),
        omega (arith, h.is_part.1, g.1),
      );
      independent = b.independent;
      span = λ prime. same_span_chained p (above P L) (above old.matrix L) next.matrix
          (below_same prime.two_or_more h.is_part.0.rest h.matrix g.0.rest (h.width ∙ sym h.is_part.0.width) (g.0.width ∙ sym h.is_part.0.width) (h.span prime))
          (b.span prime);
    }

-- a chunk whose entries stand in columns that the basis fills
pub basis_kept : {t : TriangleState} {from to : ℕ} {old : ResidueMatrix} {left : SchurRows} → IsBasisUpTo t from old → IsPartTo t false from to left → IsFullFor left.rows.matrix old.matrix → IsBasisUpTo t to old
basis_kept {t} {from} {to} {old} {left} h g full =
    let p : ℕ = t.rows.modulus in
    let P : Matrix = h.part.rows.matrix in
    let L : Matrix = left.rows.matrix in
    let mp : IsMatrix p P = h.is_part.0.rest in
    let both : SchurRows = record {
      rows = record { modulus = h.part.rows.modulus; matrix = above P L };
      coefficients = record { modulus = h.part.coefficients.modulus; matrix = above h.part.coefficients.matrix left.coefficients.matrix };
    } in
    let narrow : L.width ≡ P.width = g.0.width ∙ sym h.is_part.0.width in
    let wide : L.width ≡ old.matrix.width = g.0.width ∙ sym h.width in
    let whole : IsMatrix p (above P L) = above_matrix mp g.0.rest narrow in
    record {
      modulus = h.modulus;
      matrix = h.matrix;
      width = h.width;
      height = omega (arith, h.height, g.1);
      part = both;
      is_part = (
        part_join t false 0 from h.part left both h.is_part.0 g.0 h.is_part.1 (record { modulus = refl; rows = refl; coefficient_modulus = refl; coefficients = refl }),
        omega (arith, h.is_part.1, g.1),
      );
      independent = h.independent;
      span = λ prime.
          let two : 2 ≤ p = prime.two_or_more in
          same_span_of_rows p (above P L) old.matrix (omega arith) (h.is_part.0.width ∙ sym h.width)
          (each_of P.height L.height (λ k. IsCombination p old.matrix (row (above P L) k))
          (λ k a. subst (IsCombination p old.matrix) (sym (above_first L mp k a)) ((h.span prime (row P k)).0 (row_combination p P k two mp a)))
          (λ k a. subst (IsCombination p old.matrix) (sym (above_second L mp k))
          (full_rank_spans p old.matrix full.0 (row L k) two (h.independent prime) full.2 full.1
          (subst (λ n. IsVector p n (row L k)) wide (g.0.rest.each k a)) (subst (λ n. IsInColumns full.0 n (row L k)) wide (full.3 k a)))))
          (λ k a. combination_through p P (above P L) (row old.matrix k) (omega arith) refl
          (λ i l. subst (IsCombination p (above P L)) (above_first L mp i l) (row_combination p (above P L) i two whole (omega arith)))
          ((h.span prime (row old.matrix k)).1 (row_combination p old.matrix k two h.matrix a)));
    }

-- of all rows
pub basis_all : {t : TriangleState} {from : ℕ} {b : ResidueMatrix} → Triangular t.rows.matrix t.pairs → IsBasisUpTo t from b → from ≡ t.rows.matrix.height → IsRestBasis t b
basis_all {t} {from} {b} tri h all = record {
  fits = record { modulus = h.modulus; matrix = h.matrix; width = h.width; height = omega (arith, h.height) };
  independent = h.independent;
  span = λ prime. (h.part.rows.matrix, whole_complement tri (subst (λ to. IsPartTo t false 0 to h.part) all h.is_part) prime, h.span prime);
}

-- it has as many rows as the rank of what is left
pub basis_rank : {t : TriangleState} {b : ResidueMatrix} → IsMatrix t.rows.modulus t.rows.matrix → Triangular t.rows.matrix t.pairs → IsRestBasis t b →
    IsPrime t.rows.modulus → HasRank t.rows.modulus t.rows.matrix (length t.pairs + b.matrix.height)
basis_rank {t} {b} m tri h prime =
    let p : ℕ = t.rows.modulus in
    let left = h.span prime in
    let below : HasRank p left.0 b.matrix.height =
    rank_of_independent (λ p A prime m. rref_of_each p A prime m) span_height p left.0 b.matrix prime left.1.matrix h.fits.matrix (left.1.width ∙ sym h.fits.width) (h.independent prime) left.2 in
    round_ranked p t.rows.matrix t.pairs left.0 b.matrix.height prime m tri left.1 below
