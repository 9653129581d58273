-- A row that was split, whose sums at pivots were taken away and that was joined again is reduced.
use Rattle.std.proofs.Common.{ℕ, ◌≡◌, ◌+◌, ◌*◌, ◌%◌, ◌<◌, ◌≤◌, List, length, slice_index, inl, inr, sym, ap, ap₂, subst, ◌∙◌, arith, mod-eq_of_lt, mul-zero}
use Rattle.std.proofs.lemmas.Bool.{cases_lt}
use Rattle.residue_words.specs.Residues.{IsPrime, sum_below}
use Rattle.residue_words.specs.Matrix.{IsVector, entry, zeros}
use Rattle.residue_words.specs.declared.plain.Pair.{Pair}
use Rattle.residue_words.proofs.Sums.{sum_equal, sum_zero}
use Rattle.row_space.specs.Factors.{row_at}
use Rattle.sparse_rows.specs.Rows.{ResidueMatrix, ResidueRow}
use Rattle.sparse_rows.specs.Stored.{spread}
use Rattle.sparse_rows.proofs.Loops.{length_zeros}
use Rattle.sparse_rows.proofs.Spread.{length_spread}
use Rattle.triangular_solve.specs.PivotRows.{ArePivotRows, ArePlaced, ArePivotsReduced, AscendWhereNonzero, IsEliminated, IsEliminating, IsRoom, IsSplitRow, PlacedRows}
use Rattle.lead_rows.specs.Accumulator.{IsAlike}
use Rattle.triangular_solve.specs.FlatRows.{IsFlatRest}
use Rattle.triangular_solve.specs.Reduced.{FitsRest, IsReduced, IsSchurRow, Workspace}
use Rattle.triangular_solve.specs.Triangle.{TriangleState}
use Rattle.lead_rows.proofs.Accumulating.{as_row}
use Rattle.triangular_solve.proofs.SplitRows.{placed_or_none}

-- behind the pivots the columns ascend
pub ascend_behind : {placed : PlacedRows} (sums : List ℕ) → ArePlaced placed → IsEliminated placed sums → AscendWhereNonzero placed.columns sums
ascend_behind {placed} sums P none k t a l nk nt = elim (cases_lt k placed.rows.matrix.height) [
  | inl low ↦ absurd (nk (none k low))
  | inr ge ↦ P.ascending k t (omega arith) a l
]

pub reduced_parts : {placed : PlacedRows} {v s s1 outer rest coefficients : List ℕ} → ArePlaced placed → IsSplitRow placed.columns v s outer → IsEliminating placed s s1 coefficients → IsEliminated placed s1 → IsSplitRow placed.columns rest s1 outer →
    IsVector placed.rows.modulus (length v) rest → ArePivotsReduced placed v rest coefficients
reduced_parts {placed} {v} {s} {s1} {outer} {rest} {coefficients} P first e none last vector = record {
  vector = vector;
  residues = e.residues;
  zero = λ k l. sym (last.inside k (omega (arith, P.upper.short, P.width))) ∙ none k l;
  inside = λ prime i l. sym (first.inside i l) ∙ e.sums prime i l
      ∙ ap (λ x. (x + sum_below placed.rows.matrix.height (λ k. slice_index coefficients k * entry placed.rows.matrix k i)) % placed.rows.modulus) (last.inside i l);
  outside = λ j l not. sym (last.outside j (omega (arith, vector.len)) not) ∙ first.outside j l not;
}

-- so it is by the pivots of the matrix
pub reduced_by_pivots : {A : ResidueMatrix} {qs : List Pair} {placed : PlacedRows} {v rest coefficients : List ℕ} → ArePivotRows A qs placed → ArePivotsReduced placed v rest coefficients → length v ≡ A.matrix.width →
    IsPrime A.modulus → IsReduced A.modulus A.matrix qs v (record { rest = rest; coefficients = coefficients })
reduced_by_pivots {A} {qs} {placed} {v} {rest} {coefficients} P r long prime = record {
  zero = λ k l. let at = P.first.pivotal k l in ap (slice_index rest) (sym at.1) ∙ r.zero k (omega (arith, P.height));
  sum = λ j l. elim (placed_or_none placed.columns j) [
    | inl (i, li, e) ↦ subst (λ j. slice_index v j ≡ (slice_index rest j + sum_below (length qs) (λ k. slice_index coefficients k * entry A.matrix (row_at qs k) j)) % A.modulus) e (
        r.inside (subst IsPrime (sym P.modulus) prime) i li
        ∙ ap₂ (λ x m. (slice_index rest (slice_index placed.columns i) + x) % m) (
        ap (λ n. sum_below n (λ k. slice_index coefficients k * entry placed.rows.matrix k i)) P.height
        ∙ sum_equal (length qs) (λ k. slice_index coefficients k * entry placed.rows.matrix k i) (λ k. slice_index coefficients k * entry A.matrix (row_at qs k) (slice_index placed.columns i))
        (λ k lk. ap (λ x. slice_index coefficients k * x) (P.entries k i lk li))
        ) P.modulus
        )
    | inr not ↦
        let none : sum_below (length qs) (λ k. slice_index coefficients k * entry A.matrix (row_at qs k) j) ≡ 0 =
        sum_zero (length qs) (λ k. slice_index coefficients k * entry A.matrix (row_at qs k) j) (λ k lk. ap (λ x. slice_index coefficients k * x) (P.others k j lk l not) ∙ mul-zero (slice_index coefficients k)) in
        let lv : j < length v = omega (arith, long) in
        let same : slice_index rest j ≡ slice_index v j = r.outside j lv not in
        let small : slice_index v j < A.modulus = omega (arith, P.modulus, same, r.vector.residues j lv) in
        let plain : slice_index rest j + sum_below (length qs) (λ k. slice_index coefficients k * entry A.matrix (row_at qs k) j) ≡ slice_index v j = omega (arith, none, same) in
        sym (ap (λ x. x % A.modulus) plain ∙ mod-eq_of_lt small)
  ];
}

-- a room that was used and cleared is a room again
pub room_again : (s0 s1 p0 p1 : ResidueRow) {s2 p2 : ResidueRow} (n : ℕ) → n ≤ 2147483648 → length s0.row ≡ n → s0.modulus ≡ p0.modulus → IsAlike s0 s1 → s2 ≡ record { modulus = s1.modulus; row = zeros (length s1.row) } →
    IsAlike p0 p1 → p2.modulus ≡ p1.modulus → p2.row ≡ zeros (length p1.row) → IsRoom s2 p2
room_again s0 s1 p0 p1 {s2} {p2} n few long m sums is passed modulus zero = record {
  few = omega (arith, same, sums.1);
  clear = is ∙ ap₂ as_row (sums.0 ∙ m ∙ sym passed.0 ∙ sym modulus) (ap zeros (sym same));
  zero = zero ∙ ap zeros (sym (ap length zero ∙ length_zeros (length p1.row)));
}
  where
    same : length s2.row ≡ length s1.row
    same = ap (λ (r : ResidueRow). length r.row) is ∙ length_zeros (length s1.row)

pub room_new : {s p : ResidueRow} {m : ℕ} (n : ℕ) → n ≤ 2147483648 → s ≡ record { modulus = m; row = zeros n } → p.modulus ≡ m → (w : ℕ) → p.row ≡ zeros w → IsRoom s p
room_new {s} {p} {m} n few is e w zero = record {
  few = omega (arith, long);
  clear = is ∙ ap₂ as_row (sym e) (ap zeros (sym long));
  zero = zero ∙ ap zeros (sym (ap length zero ∙ length_zeros w));
}
  where
    long : length s.row ≡ n
    long = ap (λ (r : ResidueRow). length r.row) is ∙ length_zeros n

-- three equations of one workspace
abbrev pub workspace : ℕ → ℕ → ℕ → Workspace
workspace m n w = record { modulus = m; pairs = n; width = w }

pub same_workspace : {m n w a b c : ℕ} → m ≡ a → n ≡ b → w ≡ c → workspace m n w ≡ workspace a b c
same_workspace e f g = λ i. record { modulus = e i; pairs = f i; width = g i }

-- what a triangle promises of a row that was reduced by its pivot rows
pub triangle_reduces : {t : TriangleState} {placed : PlacedRows} {n : ℕ} (cs vs : List ℕ) {w : ResidueRow} {c : List ℕ} → ArePivotRows t.rows t.pairs placed → n ≡ t.rows.matrix.width → w.modulus ≡ t.rows.modulus → ArePivotsReduced placed (spread n cs vs) w.row c →
    FitsRest t w × IsVector t.rows.modulus (length t.pairs) c
    × (IsPrime t.rows.modulus → IsReduced t.rows.modulus t.rows.matrix t.pairs (spread t.rows.matrix.width cs vs) (record { rest = w.row; coefficients = c }))
triangle_reduces {t} {placed} {n} cs vs {w} {c} P e m r = (
  record {
    modulus = m;
    vector = subst (λ p. IsVector p t.rows.matrix.width w.row) P.modulus (subst (λ k. IsVector placed.rows.modulus k w.row) (length_spread n cs vs ∙ e) r.vector);
    zero = λ k l. let at = P.first.pivotal k l in ap (slice_index w.row) (sym at.1) ∙ r.zero k (omega (arith, P.height));
  },
  subst (λ p. IsVector p (length t.pairs) c) P.modulus (subst (λ k. IsVector placed.rows.modulus k c) P.height r.residues),
  (λ prime. reduced_by_pivots P (subst (λ k. ArePivotsReduced placed (spread k cs vs) w.row c) e r) (length_spread t.rows.matrix.width cs vs) prime),
)

-- and of one of which this is left
pub triangle_leaves : {t : TriangleState} {placed : PlacedRows} {n : ℕ} (cs vs : List ℕ) {w : ResidueRow} → ArePivotRows t.rows t.pairs placed → n ≡ t.rows.matrix.width → w.modulus ≡ t.rows.modulus → IsFlatRest placed (spread n cs vs) w.row →
    FitsRest t w × (IsPrime t.rows.modulus → IsSchurRow t.rows.modulus t.rows.matrix t.pairs (spread t.rows.matrix.width cs vs) w.row)
triangle_leaves {t} {placed} {n} cs vs {w} P e m l = (
  fits,
  (λ prime. let r = l.reduced (subst IsPrime (sym P.modulus) prime) in (fits.vector, (r.0, (triangle_reduces cs vs P e m r.1).2 prime))),
)
  where
    fits : FitsRest t w
    fits = record {
      modulus = m;
      vector = subst (λ p. IsVector p t.rows.matrix.width w.row) P.modulus (subst (λ k. IsVector placed.rows.modulus k w.row) (length_spread n cs vs ∙ e) l.vector);
      zero = λ k lk. let at = P.first.pivotal k lk in ap (slice_index w.row) (sym at.1) ∙ l.zero k (omega (arith, P.height));
    }
