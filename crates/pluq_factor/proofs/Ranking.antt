-- The rank as pivots that are counted, round by round.
use Rattle.std.proofs.Common.{ℕ, ◌≡◌, ◌+◌, ◌-◌, ◌<◌, ◌≤◌, inl, inr, min, slice_index, sym, subst, arith}
use Rattle.std.proofs.lemmas.Bool.{cases_eq, cases_lt}
use Rattle.residue_words.specs.Residues.{IsPrime}
use Rattle.residue_words.specs.Matrix.{Matrix}
use Rattle.row_space.specs.Echelon.{HasRank, IsIndependent, IsRref}
use Rattle.row_space.proofs.Counting.{independent_height, pigeonhole}
use Rattle.row_space.proofs.Spans.{places_independent}
use Rattle.sparse_rows.specs.Rows.{ResidueMatrix}
use Rattle.schur_rows.specs.Laws.{RoundRank}
use Rattle.schur_rows.specs.Round.{FitsComplement}
use Rattle.schur_rows.proofs.Distinct.{triangular_narrow, triangular_short}
use Rattle.schur_rows.proofs.Streaming.{basis_rank}
use Rattle.weight_order.specs.Keeping.{KeepsRank}
use Rattle.pluq_factor.specs.Counted.{IsCountedRound, IsBoundedRank}
use Rattle.pluq_factor.specs.RoundPivots.{IsRestOf, triangle_on}
use Rattle.pluq_factor.specs.declared.counted_round.CountedRound.{CountedRound}
use Rattle.pluq_factor.specs.declared.rest.Rest.TheVariants.{Stored, Basis}

-- a rank is at most the height and the width
pub rank_least : {p : ℕ} {A : Matrix} {r : ℕ} → IsPrime p → HasRank p A r → (r ≤ A.height) × (r ≤ A.width)
rank_least {p} {A} {r} prime rank =
    let two : 2 ≤ p = prime.two_or_more in
    let E : Matrix = rank.0 in
    let form : IsRref p A E = rank.1 in
    let places = form.form.1.1 in
    let free : IsIndependent p E = places_independent p (λ j lead. j < lead) E (slice_index form.form.0) (omega arith) places in
    let low : E.height ≤ A.height = independent_height p E A two free (λ v c. (form.span v).1 c) in
    let narrow : E.height ≤ E.width = pigeonhole E.height E.width (slice_index form.form.0) places.inside (λ k t lk lt same.
    elim (cases_eq k t) [
      | inl e ↦ e
      | inr d ↦ elim (cases_lt k t) [
        | inl less ↦ absurd (let x = places.rising k t less lt in omega arith)
        | inr more ↦ absurd (let x = places.rising t k (omega arith) lk in omega arith)
      ]
    ]) in
    (omega (arith, rank.2), omega (arith, rank.2, form.width))

-- a round's pivots and the rows of a basis of what they leave are as many as the rank
pub ranked_basis : {R : ResidueMatrix} {c : CountedRound} {U : ResidueMatrix} → IsCountedRound R c → c.rest ≡ Basis U → IsPrime R.modulus → HasRank R.modulus R.matrix (c.count + U.matrix.height)
ranked_basis {R} {c} {U} h is prime =
    let t = triangle_on R h.pairs in
    subst (λ n. HasRank R.modulus R.matrix (n + U.matrix.height)) (sym h.count)
    (basis_rank {t = t} h.sound h.triangular (subst (IsRestOf t) is h.rest) prime)

-- a round's pivots, with the rank of the complement
pub ranked_stored : RoundRank → {R : ResidueMatrix} {c : CountedRound} {B : ResidueMatrix} {r : ℕ} → IsCountedRound R c → c.rest ≡ Stored B → (IsPrime B.modulus → HasRank B.modulus B.matrix r) → IsPrime R.modulus →
    HasRank R.modulus R.matrix (c.count + r)
ranked_stored law {R} {c} {B} {r} h is below prime =
    let t = triangle_on R h.pairs in
    let rest : IsRestOf t (Stored B) = subst (IsRestOf t) is h.rest in
    let fits : FitsComplement t B = rest.0 in
    subst (λ n. HasRank R.modulus R.matrix (n + r)) (sym h.count)
    (law R.modulus R.matrix h.pairs B.matrix r prime h.sound h.triangular (rest.1 prime) (subst (λ p. IsPrime p → HasRank p B.matrix r) fits.modulus below prime))

-- there are no more pivots than rows and columns
pub counted_few : {R : ResidueMatrix} {c : CountedRound} → IsCountedRound R c → (c.count ≤ R.matrix.height) × (c.count ≤ R.matrix.width)
counted_few h = (omega (arith, h.count, triangular_short h.triangular), omega (arith, h.count, triangular_narrow h.triangular))

-- for a prime modulus the sum isn't cut off
pub ranked_most : {R : ResidueMatrix} {n most total : ℕ} (r : ℕ) → (IsPrime R.modulus → HasRank R.modulus R.matrix (n + r)) → (n ≤ R.matrix.height) × (n ≤ R.matrix.width) → most ≡ min R.matrix.height R.matrix.width → total ≡ n + min r (most - n) →
    IsBoundedRank R total
ranked_most {R} {n} {most} {total} r whole few small sum = record {
  rank = λ prime.
      let least = rank_least prime (whole prime) in
      let e : n + r ≡ total = omega (arith, least.0, least.1, small, sum) in
      subst (HasRank R.modulus R.matrix) e (whole prime);
  at_most_height = omega (arith, few.0, few.1, small, sum);
  at_most_width = omega (arith, few.0, few.1, small, sum);
}

-- the rank of a matrix in another order
pub rank_kept : {R S : ResidueMatrix} {r : ℕ} → KeepsRank R S → (IsPrime S.modulus → HasRank S.modulus S.matrix r) → IsPrime R.modulus → HasRank R.modulus R.matrix r
rank_kept {R} {S} {r} kept rank prime = kept.rank prime r (subst (λ p. IsPrime p → HasRank p S.matrix r) kept.modulus rank prime)

-- the rank of a matrix that keeps that of R, bounded by the sizes of R
pub bounded_kept : {R S : ResidueMatrix} {r : ℕ} → KeepsRank R S → IsBoundedRank S r → IsBoundedRank R r
bounded_kept {R} {S} {r} kept bounded = record {
  rank = rank_kept kept bounded.rank;
  at_most_height = omega (arith, kept.least, bounded.at_most_height, bounded.at_most_width);
  at_most_width = omega (arith, kept.least, bounded.at_most_height, bounded.at_most_width);
}
