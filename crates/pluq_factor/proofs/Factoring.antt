-- Factors that rounds give.
use Rattle.std.proofs.Common.{ℕ, zero, suc, ◌≡◌, ◌+◌, ◌-◌, ◌*◌, ◌%◌, ◌<◌, ◌≤◌, List, [], ◌++◌, inl, inr, length, slice_index, sym, refl, ap, subst, ◌∙◌, arith, length-append, mod-eq_of_lt}
use Rattle.std.proofs.lemmas.Bool.{cases_lt}
use Rattle.residue_words.specs.declared.plain.Pair.{Pair}
use Rattle.residue_words.specs.Residues.{IsPrime}
use Rattle.residue_words.specs.Matrix.{Matrix, IsMatrix, entry}
use Rattle.residue_words.proofs.Sums.{sum_none}
use Rattle.residue_words.proofs.Vectors.{entry_residue}
use Rattle.row_space.specs.Factors.{AreFactors, row_at, col_at}
use Rattle.sparse_rows.specs.Rows.{ResidueMatrix, above, beside}
use Rattle.dense_finish.specs.declared.factors.Factors.{Factors}
use Rattle.dense_finish.specs.Factors.{IsFactored}
use Rattle.pivot_table.specs.Order.{Triangular}
use Rattle.pivot_table.specs.Selected.{Selected}
use Rattle.triangular_solve.specs.Reduced.{IsComplement}
use Rattle.triangular_solve.specs.Triangle.{TriangleState}
use Rattle.schur_rows.specs.Round.{FitsRound, IsRound, pivot_rows}
use Rattle.schur_rows.specs.declared.round.SchurRows.{SchurRows}
use Rattle.schur_rows.proofs.FactorRows.{fit_few}
use Rattle.schur_rows.proofs.Joining.{joined}
use Rattle.schur_rows.proofs.Above.{above_matrix, beside_matrix, col_first, col_second, each_of, pivot_height, pivots_matrix, row_first, row_second}
use Rattle.pluq_factor.specs.Joined.{EmptyWhereMany, FitsRoundAbove, JoinsWhereFew, pivot_count, top_of}
use Rattle.pluq_factor.specs.Rounds.{AreFactorsOf, AreWithoutPivots, HaveSizes}
use Rattle.pluq_factor.specs.Staged.{Staged}
use Rattle.pluq_factor.specs.RoundPivots.{IsRoundTaken, triangle_on}
use Rattle.pluq_factor.specs.declared.round_pivots.RoundPivots.{RoundPivots}
use Rattle.pluq_factor.specs.declared.round_pivots.Top.{Top}

-- a dense finish gives factors
pub finished : {p : ℕ} {A : Matrix} {f : Factors} → IsFactored p A f → AreFactorsOf p A f
finished {p} {A} {f} h = record {
  left_modulus = h.left_modulus;
  right_modulus = h.right_modulus;
  sizes = record {
    left = h.fit.left;
    right = h.fit.right;
    left_height = h.fit.left_height;
    left_width = h.fit.left_width;
    right_height = h.fit.right_height;
    right_width = h.fit.right_width;
    rows_below = h.fit.rows_below;
    columns_below = h.fit.columns_below;
    few = fit_few h.fit;
  };
  factors = h.factors;
}

-- nothing is left to say of no round
pub staged_none : (p : ℕ) (A : Matrix) (workers : ℕ) (ps : List Pair) → Staged p A workers 0 ps
unfolding Staged
staged_none p A workers ps = tt

-- without pivots the complement is the matrix itself
complement_none : {p : ℕ} {A : Matrix} → IsMatrix p A → IsComplement p A [] A
complement_none {p} {A} m = record {
  matrix = m;
  height = refl;
  width = refl;
  pivotal = λ k j l lj. absurd (omega arith);
  others = λ i l none. (
    m.each i l,
    (
      [],
      record {
        zero = λ k l. absurd (omega arith);
        sum = λ j lj.
            let plain : entry A i j ≡ entry A i j + 0 = omega arith in
            sym (mod-eq_of_lt (entry_residue p A m i j l lj)) ∙ ap (λ x. x % p) (plain ∙ ap (λ x. entry A i j + x) (sym (sum_none (λ k. slice_index [] k * entry A (row_at [] k) j))));
      },
    ),
  );
}

-- a round that finds no pivot may be told as often as one likes
pub staged_empty : {p : ℕ} {A : Matrix} {workers : ℕ} → IsMatrix p A → Selected A workers [] → (rounds : ℕ) (ps : List Pair) → Staged p A workers rounds ps
unfolding Staged
staged_empty {p} {A} {workers} m s zero ps = tt
staged_empty {p} {A} {workers} m s (suc rounds) ps = ([], ps, A, refl, s, complement_none m, staged_empty m s rounds ps)

-- one round before others
pub staged_more : {t : TriangleState} {s : SchurRows} {workers r rounds : ℕ} {all : List Pair} (ps : List Pair) → Selected t.rows.matrix workers t.pairs → IsRound t s → Staged t.rows.modulus s.rows.matrix workers r ps → suc r ≡ rounds →
    all ≡ t.pairs ++ ps → Staged t.rows.modulus t.rows.matrix workers rounds all
unfolding Staged
staged_more {t} {s} {workers} {r} {rounds} {all} ps selected round rest count is =
    subst (λ n. Staged t.rows.modulus t.rows.matrix workers n all) count (t.pairs, ps, s.rows.matrix, is, selected, round.complement, rest)

-- a round, and factors of what it left, as they are met
pub record IsMet (t : TriangleState) (s : SchurRows) (workers r : ℕ) (below : Factors) : Type 0 where
  pub matrix : IsMatrix t.rows.modulus t.rows.matrix
  pub selected : Selected t.rows.matrix workers t.pairs
  pub fits : FitsRound t s
  pub round : IsPrime t.rows.modulus → IsRound t s
  pub sound : AreFactorsOf t.rows.modulus s.rows.matrix below
  pub staged : IsPrime t.rows.modulus → Staged t.rows.modulus s.rows.matrix workers r below.pivots

pub met : {R : ResidueMatrix} {workers r : ℕ} {taken : RoundPivots} {below : Factors} → IsRoundTaken R workers taken → AreFactorsOf taken.left.rows.modulus taken.left.rows.matrix below →
    (IsPrime taken.left.rows.modulus → Staged taken.left.rows.modulus taken.left.rows.matrix workers r below.pivots) → IsMet (triangle_on R taken.pivots) taken.left workers r below
met {R} {workers} {r} {taken} {below} h factored staged = record {
  matrix = h.sound;
  selected = h.selected;
  fits = h.fits;
  round = h.round;
  sound = subst (λ p. AreFactorsOf p taken.left.rows.matrix below) h.fits.rest.modulus factored;
  staged = subst (λ p. IsPrime p → Staged p taken.left.rows.matrix workers r below.pivots) h.fits.rest.modulus staged;
}

-- with the pivots of a round there are no more pivots than rows, for a prime modulus
pub met_few : {t : TriangleState} {s : SchurRows} {workers r : ℕ} {below : Factors} → IsMet t s workers r below → IsPrime t.rows.modulus → length t.pairs + length below.pivots ≤ t.rows.matrix.height
met_few {t} {s} {workers} {r} {below} h prime =
    let e = fit_few (joined prime h.matrix h.selected.triangular (h.round prime) (h.sound.factors prime)).fit in omega (arith, length-append t.pairs below.pivots)

module _ {t : TriangleState} {s : SchurRows} {workers r : ℕ} {below f : Factors} (h : IsMet t s workers r below) (room : length t.pairs + length below.pivots ≤ t.rows.matrix.height) (left_modulus : f.l.modulus ≡ t.rows.modulus)
    (right_modulus : f.u.modulus ≡ t.rows.modulus) (pivots : f.pivots ≡ t.pairs ++ below.pivots) (left : f.l.matrix ≡ beside s.coefficients.matrix below.l.matrix)
    (right : f.u.matrix ≡ above (pivot_rows t.rows.matrix t.pairs) below.u.matrix) where
  abbrev p : ℕ
  p = t.rows.modulus

  abbrev A : Matrix
  A = t.rows.matrix

  abbrev qs : List Pair
  qs = t.pairs

  abbrev tri : Triangular A qs
  tri = h.selected.triangular

  abbrev L : Matrix
  L = beside s.coefficients.matrix below.l.matrix

  abbrev U : Matrix
  U = above (pivot_rows A qs) below.u.matrix

  sizes : HaveSizes p A (qs ++ below.pivots) L U
  sizes = record {
    left = beside_matrix h.fits.matrix h.sound.sizes.left (h.sound.sizes.left_height ∙ h.fits.rest.height ∙ sym h.fits.height);
    right = above_matrix (pivots_matrix qs h.matrix (λ k l. (tri.nonzero k l).0)) h.sound.sizes.right (h.sound.sizes.right_width ∙ h.fits.rest.width);
    left_height = h.fits.height;
    left_width = let e = h.fits.width in let g = h.sound.sizes.left_width in omega (arith, length-append qs below.pivots);
    right_height = let e = h.sound.sizes.right_height in omega (arith, pivot_height A qs, length-append qs below.pivots);
    right_width = refl;
    rows_below = λ k l. each_of (length qs) (length below.pivots) (λ k. row_at (qs ++ below.pivots) k < A.height)
        (λ k a. subst (λ x. x < A.height) (sym (row_first qs below.pivots k a)) (tri.nonzero k a).0)
        (λ t a. let e = h.fits.rest.height in omega (arith, row_second qs below.pivots t, h.sound.sizes.rows_below t a)) k (omega (arith, length-append qs below.pivots));
    columns_below = λ k l. each_of (length qs) (length below.pivots) (λ k. col_at (qs ++ below.pivots) k < A.width)
        (λ k a. subst (λ x. x < A.width) (sym (col_first qs below.pivots k a)) (tri.nonzero k a).1)
        (λ t a. let e = h.fits.rest.width in omega (arith, col_second qs below.pivots t, h.sound.sizes.columns_below t a)) k (omega (arith, length-append qs below.pivots));
    few = omega (arith, length-append qs below.pivots);
  }

  carry : (F : List Pair → Matrix → Matrix → Type 0) → F (qs ++ below.pivots) L U → F f.pivots f.l.matrix f.u.matrix
  carry F x = subst (λ ps. F ps f.l.matrix f.u.matrix) (sym pivots) (subst (λ L. F (qs ++ below.pivots) L f.u.matrix) (sym left) (subst (F (qs ++ below.pivots) L) (sym right) x))

  pub factored : AreFactorsOf p A f
  factored = record {
    left_modulus = left_modulus;
    right_modulus = right_modulus;
    sizes = carry (HaveSizes p A) sizes;
    factors = λ prime. carry (AreFactors p A) (joined prime h.matrix tri (h.round prime) (h.sound.factors prime));
  }

pub met_staged : {t : TriangleState} {s : SchurRows} {workers r rounds : ℕ} {all : List Pair} {below : Factors} → IsMet t s workers r below → suc r ≡ rounds → all ≡ t.pairs ++ below.pivots → IsPrime t.rows.modulus →
    Staged t.rows.modulus t.rows.matrix workers rounds all
met_staged {t} {s} {workers} {r} {rounds} {all} {below} h count is prime = staged_more below.pivots h.selected (h.round prime) (h.staged prime) count is

-- factors without a pivot, where the modulus isn't prime
pub nothing_factored : {p : ℕ} {A : Matrix} {f : Factors} {m n : ℕ} → AreWithoutPivots p m n f → m ≡ A.height → n ≡ A.width → (IsPrime p → ⊥) → AreFactorsOf p A f
nothing_factored {p} {A} {f} {m} {n} h high wide odd =
    let none : length f.pivots ≡ 0 = ap length h.pivots in
    record {
      left_modulus = h.left_modulus;
      right_modulus = h.right_modulus;
      sizes = record {
        left = h.left;
        right = h.right;
        left_height = h.left_height ∙ high;
        left_width = h.left_width ∙ sym none;
        right_height = h.right_height ∙ sym none;
        right_width = h.right_width ∙ wide;
        rows_below = λ k l. absurd (omega arith);
        columns_below = λ k l. absurd (omega arith);
        few = omega arith;
      };
      factors = λ prime. absurd (odd prime);
    }

-- what a round gives fits above factors of what it left
pub together : {R B : ResidueMatrix} {workers : ℕ} {taken : RoundPivots} {top : Top} {below : Factors} → IsRoundTaken R workers taken → top ≡ top_of taken → B ≡ taken.left.rows → AreFactorsOf B.modulus B.matrix below → FitsRoundAbove top below
together {R} {B} {workers} {taken} {top} {below} h kept left factors = subst (λ t. FitsRoundAbove t below) (sym kept) (above_rest h (subst (λ (B : ResidueMatrix). AreFactorsOf B.modulus B.matrix below) left factors))
  where
    above_rest : {R : ResidueMatrix} {workers : ℕ} {taken : RoundPivots} {below : Factors} → IsRoundTaken R workers taken → AreFactorsOf taken.left.rows.modulus taken.left.rows.matrix below → FitsRoundAbove (top_of taken) below
    above_rest {R} {workers} {taken} {below} h factored = record {
      left_modulus = h.fits.modulus ∙ sym h.fits.rest.modulus ∙ sym factored.left_modulus;
      right_modulus = h.modulus ∙ sym h.fits.rest.modulus ∙ sym factored.right_modulus;
      height = h.fits.height ∙ sym h.fits.rest.height ∙ sym factored.sizes.left_height;
      width = ap (λ (M : Matrix). M.width) h.top ∙ sym h.fits.rest.width ∙ sym factored.sizes.right_width;
      left_width = h.fits.width;
      right_height = ap (λ (M : Matrix). M.height) h.top ∙ pivot_height R.matrix taken.pivots;
      below_width = factored.sizes.left_width;
      below_height = factored.sizes.right_height;
    }

-- the factors that both give, where they have no more pivots than the matrix has rows, and those without a pivot elsewhere
module _ {R B : ResidueMatrix} {workers : ℕ} (r : ℕ) {taken : RoundPivots} {top : Top} {below f : Factors} (h : IsRoundTaken R workers taken) (kept : top ≡ top_of taken) (left : B ≡ taken.left.rows)
    (factors : AreFactorsOf B.modulus B.matrix below) (staged : IsPrime B.modulus → Staged B.modulus B.matrix workers r below.pivots) (joins : JoinsWhereFew top below f) (without : EmptyWhereMany top below f) where
  all : IsMet (triangle_on R taken.pivots) taken.left workers r below
  all = met h (subst (λ (B : ResidueMatrix). AreFactorsOf B.modulus B.matrix below) left factors) (subst (λ (B : ResidueMatrix). IsPrime B.modulus → Staged B.modulus B.matrix workers r below.pivots) left staged)

  many : EmptyWhereMany (top_of taken) below f
  many = subst (λ t. EmptyWhereMany t below f) kept without

  few : JoinsWhereFew (top_of taken) below f
  few = subst (λ t. JoinsWhereFew t below f) kept joins

  fits : IsPrime R.modulus → pivot_count (top_of taken) below ≤ taken.left.coefficients.matrix.height
  fits prime = omega (arith, met_few all prime, h.fits.height)

  pub whole_factored : AreFactorsOf R.modulus R.matrix f
  whole_factored = elim (cases_lt taken.left.coefficients.matrix.height (pivot_count (top_of taken) below)) [
    | inl more ↦ nothing_factored (subst (λ p. AreWithoutPivots p taken.left.coefficients.matrix.height taken.top.matrix.width f) h.modulus (many more)) h.fits.height (ap (λ (M : Matrix). M.width) h.top)
        (λ prime. absurd (omega (arith, fits prime)))
    | inr less ↦
        let both = few (omega arith) in
        factored all (omega (arith, h.fits.height)) (both.left_modulus ∙ h.fits.modulus) (both.right_modulus ∙ h.modulus) both.pivots both.left (both.right ∙ ap (λ (T : Matrix). above T below.u.matrix) h.top)
  ]

  pub whole_staged : {rounds : ℕ} → suc r ≡ rounds → IsPrime R.modulus → Staged R.modulus R.matrix workers rounds f.pivots
  whole_staged count prime = met_staged all count (few (fits prime)).pivots prime

pub last_round : (rounds : ℕ) → (rounds ≡ 0 → ⊥) → suc (rounds - 1) ≡ rounds
last_round rounds some = omega (arith, some)
