-- Parts of a round, and how they are put together.
use Rattle.std.proofs.Common.{ℕ, ◌≡◌, ◌+◌, ◌*◌, ◌-◌, ◌<◌, ◌≤◌, ◌%◌, ◌∙◌, Bool, true, false, cond, eqb, ◌==◌, if◌then◌else◌, eq-eqb, ne_eqb, inl, inr, List, [], ◌∷◌, length, replicate, slice_index, slice_set, sym, refl, ap, ap₂, subst, arith, zero-mul}
use native.Mathlib.Nat.{zero-mod}
use Rattle.std.proofs.lemmas.Bool.{cases_eq, cases_lt, cond-false, cond-true}
use Rattle.std.proofs.lemmas.List.{get_or-replicate, length-replicate}
use Rattle.residue_words.specs.declared.plain.Pair.{Pair}
use Rattle.residue_words.specs.Residues.{IsPrime, sum_below}
use Rattle.residue_words.specs.Matrix.{Matrix, IsMatrix, IsVector, entry, list_of, row, zeros}
use Rattle.residue_words.proofs.Sums.{sum_zero}
use Rattle.residue_words.proofs.Vectors.{at_list_of, at_zeros, length_list_of, list_equal, vector_of, zeros_vector}
use Rattle.row_space.specs.Factors.{row_at, col_at}
use Rattle.row_space.specs.Inverse.{unit}
use Rattle.sparse_rows.specs.Rows.{IsNextFilled, IsZeroRow, ResidueMatrix, ResidueRow, above, nonzeros, support, LARGEST_SIZE}
use Rattle.sparse_rows.specs.Stored.{spread}
use Rattle.sparse_rows.proofs.Spread.{spread_support}
use Rattle.sparse_rows.proofs.FilledRows.{zero_row}
use Rattle.sparse_rows.proofs.Loops.{unit_row}
use Rattle.pivot_table.specs.Order.{Triangular}
use Rattle.triangular_solve.specs.Reduced.{FitsReduced, FitsRest, IsPivotRow, IsReduced, IsSchurRow, reduction_of}
use Rattle.triangular_solve.specs.declared.reduced.Reduced.{Reduced}
use Rattle.triangular_solve.specs.Triangle.{TriangleState}
use Rattle.schur_rows.specs.Parts.{AddsReduced, AddsRow, AddsZeros, AreZeroRows, MayTakeRow, IsPart, IsPartTo, IsRowOfRound, Joins, itself}
use Rattle.schur_rows.specs.PivotNumbers.{IsRowOfPair}
use Rattle.schur_rows.specs.declared.round.SchurRows.{SchurRows}
use Rattle.schur_rows.proofs.Above.{above_first, above_matrix, above_second, each_of}
use Rattle.schur_rows.proofs.Distinct.{triangular_rows}

-- no row
pub part_none : (t : TriangleState) (with_coefficients : Bool) (from : ℕ) {s : SchurRows} → s.rows.modulus ≡ t.rows.modulus → s.coefficients.modulus ≡ t.rows.modulus →
    s.rows.matrix ≡ record { height = 0; width = t.rows.matrix.width; rows = [] } → s.coefficients.matrix ≡ record { height = 0; width = length t.pairs; rows = [] } → IsPartTo t with_coefficients from from s
part_none t with_coefficients from {s} mb mc b c = (
  record {
    modulus = mb;
    rest = rw b record { len = refl; each = λ i l. absurd (omega arith) };
    width = ap (λ (M : Matrix). M.width) b;
    coefficient_modulus = mc;
    coefficients = rw c record { len = refl; each = λ i l. absurd (omega arith) };
    coefficient_width = ap (λ (M : Matrix). M.width) c;
    height = ap (λ (M : Matrix). M.height) c ∙ ap (λ (M : Matrix). M.height) (sym b);
    each = λ x l. absurd (omega (arith, ap (λ (M : Matrix). M.height) b));
  },
  omega (arith, ap (λ (M : Matrix). M.height) b),
)

-- a part below another
pub part_join : (t : TriangleState) (with_coefficients : Bool) (from to : ℕ) (s u v : SchurRows) → IsPart t with_coefficients from s → IsPart t with_coefficients to u → from + s.rows.matrix.height ≡ to → Joins u s v → IsPart t with_coefficients from v
part_join t with_coefficients from to s u v h g meet j = record {
  modulus = j.modulus ∙ h.modulus;
  rest = subst (IsMatrix t.rows.modulus) (sym j.rows) (above_matrix h.rest g.rest (g.width ∙ sym h.width));
  width = ap (λ (M : Matrix). M.width) j.rows ∙ h.width;
  coefficient_modulus = j.coefficient_modulus ∙ h.coefficient_modulus;
  coefficients = subst (IsMatrix t.rows.modulus) (sym j.coefficients) (above_matrix h.coefficients g.coefficients (g.coefficient_width ∙ sym h.coefficient_width));
  coefficient_width = ap (λ (M : Matrix). M.width) j.coefficients ∙ h.coefficient_width;
  height = ap (λ (M : Matrix). M.height) j.coefficients ∙ ap₂ (λ a b. a + b) h.height g.height ∙ ap (λ (M : Matrix). M.height) (sym j.rows);
  each = λ x l. each_of s.rows.matrix.height u.rows.matrix.height (λ x. IsRowOfRound t with_coefficients (from + x) (record { rest = row v.rows.matrix x; coefficients = row v.coefficients.matrix x }))
      (λ x lx. placed (from + x)
      (sym (ap (λ M. row M x) j.rows ∙ above_first u.rows.matrix h.rest x lx))
      (sym (ap (λ M. row M x) j.coefficients ∙ above_first u.coefficients.matrix h.coefficients x (omega (arith, h.height)))) (h.each x lx))
      (λ x lx. let e : to + x ≡ from + (s.rows.matrix.height + x) = omega arith in
      subst (λ i. IsRowOfRound t with_coefficients i (record { rest = row v.rows.matrix (s.rows.matrix.height + x); coefficients = row v.coefficients.matrix (s.rows.matrix.height + x) })) e
      (placed (to + x)
      (sym (ap (λ M. row M (s.rows.matrix.height + x)) j.rows ∙ above_second u.rows.matrix h.rest x))
      (sym (ap (λ M. row M (s.rows.matrix.height + x)) j.coefficients ∙ ap (λ h. row (above s.coefficients.matrix u.coefficients.matrix) (h + x)) (sym h.height) ∙ above_second u.coefficients.matrix h.coefficients x)) (g.each x lx)))
      x (omega (arith, ap (λ (M : Matrix). M.height) j.rows));
}
  where
    placed : (i : ℕ) {w w' c c' : List ℕ} → w ≡ w' → c ≡ c' → IsRowOfRound t with_coefficients i (record { rest = w; coefficients = c }) → IsRowOfRound t with_coefficients i (record { rest = w'; coefficients = c' })
    placed i {w} {w'} {c} {c'} e f r = subst (λ w. IsRowOfRound t with_coefficients i (record { rest = w; coefficients = c' })) e (subst (λ c. IsRowOfRound t with_coefficients i (record { rest = w; coefficients = c })) f r)

-- one row
one_row : (p n : ℕ) (v : List ℕ) → IsVector p n v → IsMatrix p (record { height = 1; width = n; rows = v ∷ [] })
one_row p n v h = record { len = refl; each = λ i l. let e : i ≡ 0 = omega arith in subst (λ i. IsVector p n (row (record { height = 1; width = n; rows = v ∷ [] }) i)) (sym e) h }

pub part_more : (t : TriangleState) (with_coefficients : Bool) (from i : ℕ) (s v : SchurRows) → IsPart t with_coefficients from s → from + s.rows.matrix.height ≡ i → AddsReduced t with_coefficients i s v → IsPart t with_coefficients from v
part_more t with_coefficients from i s v h meet a =
    let n : ℕ = t.rows.matrix.width in
    let m : ℕ = length t.pairs in
    let B : Matrix = record { height = 1; width = n; rows = a.left.rest ∷ [] } in
    let C : Matrix = record { height = 1; width = m; rows = a.left.coefficients ∷ [] } in
    let u : SchurRows = record { rows = record { modulus = t.rows.modulus; matrix = B }; coefficients = record { modulus = t.rows.modulus; matrix = C } } in
    part_join t with_coefficients from i s u v h (record {
      modulus = refl;
      rest = one_row t.rows.modulus n a.left.rest a.rest;
      width = refl;
      coefficient_modulus = refl;
      coefficients = one_row t.rows.modulus m a.left.coefficients a.coefficients;
      coefficient_width = refl;
      height = refl;
      each = λ x l.
          let e : 0 ≡ x = omega arith in
          subst (λ x. IsRowOfRound t with_coefficients (i + x) (record { rest = row B x; coefficients = row C x })) e (let plain : i ≡ i + 0 = omega arith in subst (λ i. IsRowOfRound t with_coefficients i a.left) plain a.is_row);
    }) meet (record { modulus = a.added.modulus; rows = a.added.rows; coefficient_modulus = a.added.coefficient_modulus; coefficients = a.added.coefficients })

-- the zero row, which is what is left of a row without an entry
zero_rows : {p : ℕ} → 0 < p → (n d : ℕ) → IsMatrix p (record { height = d; width = n; rows = replicate d (zeros n) })
zero_rows {p} pos n d = record {
  len = length-replicate d (zeros n);
  each = λ i l. subst (IsVector p n) (sym (get_or-replicate d i (zeros n) [] l)) (zeros_vector p n pos);
}

zero_reduced : (t : TriangleState) (i : ℕ) → row t.rows.matrix i ≡ zeros t.rows.matrix.width → Triangular t.rows.matrix t.pairs →
    IsReduced t.rows.modulus t.rows.matrix t.pairs (row t.rows.matrix i) (record { rest = zeros t.rows.matrix.width; coefficients = zeros (length t.pairs) })
zero_reduced t i none tri = record {
  zero = λ k l. at_zeros t.rows.matrix.width (col_at t.pairs k) (tri.nonzero k l).1;
  sum = λ j l.
      let sum : sum_below (length t.pairs) (λ k. slice_index (zeros (length t.pairs)) k * entry t.rows.matrix (row_at t.pairs k) j) ≡ 0 =
      sum_zero (length t.pairs) (λ k. slice_index (zeros (length t.pairs)) k * entry t.rows.matrix (row_at t.pairs k) j)
      (λ k lk. ap (λ x. x * entry t.rows.matrix (row_at t.pairs k) j) (at_zeros (length t.pairs) k lk) ∙ zero-mul (entry t.rows.matrix (row_at t.pairs k) j)) in
      ap (λ u. slice_index u j) none ∙ at_zeros t.rows.matrix.width j l ∙ sym (zero-mod t.rows.modulus)
      ∙ ap₂ (λ a b. (a + b) % t.rows.modulus) (sym (at_zeros t.rows.matrix.width j l)) (sym sum);
}

pub part_zeros : (t : TriangleState) (with_coefficients : Bool) (from d : ℕ) (s v : SchurRows) → 2 ≤ t.rows.modulus → IsMatrix t.rows.modulus t.rows.matrix → Triangular t.rows.matrix t.pairs → IsPart t with_coefficients from s →
    from + s.rows.matrix.height + d ≤ t.rows.matrix.height → AreZeroRows t.rows.matrix (from + s.rows.matrix.height) (from + s.rows.matrix.height + d) → AddsZeros d s v → IsPart t with_coefficients from v
part_zeros t with_coefficients from d s v two m tri h low none a =
    let n : ℕ = t.rows.matrix.width in
    let r : ℕ = length t.pairs in
    let to : ℕ = from + s.rows.matrix.height in
    let pos : 0 < t.rows.modulus = omega arith in
    let B : Matrix = record { height = d; width = n; rows = replicate d (zeros n) } in
    let C : Matrix = record { height = d; width = r; rows = replicate d (zeros r) } in
    let u : SchurRows = record { rows = record { modulus = t.rows.modulus; matrix = B }; coefficients = record { modulus = t.rows.modulus; matrix = C } } in
    part_join t with_coefficients from to s u v h (record {
      modulus = refl;
      rest = zero_rows pos n d;
      width = refl;
      coefficient_modulus = refl;
      coefficients = zero_rows pos r d;
      coefficient_width = refl;
      height = refl;
      each = λ x l.
          let i : ℕ = to + x in
          let li : i < t.rows.matrix.height = omega arith in
          let zero : row t.rows.matrix i ≡ zeros n = zero_row m i li (none i (omega arith) (omega arith)) in
          let rb : row B x ≡ zeros n = get_or-replicate d x (zeros n) [] l in
          let rc : row C x ≡ zeros r = get_or-replicate d x (zeros r) [] l in
          let reduced : IsReduced t.rows.modulus t.rows.matrix t.pairs (row t.rows.matrix i) (record { rest = row B x; coefficients = row C x }) =
          subst (λ w. IsReduced t.rows.modulus t.rows.matrix t.pairs (row t.rows.matrix i) (record { rest = w; coefficients = row C x })) (sym rb)
          (subst (λ c. IsReduced t.rows.modulus t.rows.matrix t.pairs (row t.rows.matrix i) (record { rest = zeros n; coefficients = c })) (sym rc) (zero_reduced t i zero tri)) in
          record {
            nothing = λ w. rb;
            itself = λ k k' lk e. absurd ((tri.nonzero k' lk).2 (ap (λ i. entry t.rows.matrix i (col_at t.pairs k')) e ∙ ap (λ u. slice_index u (col_at t.pairs k')) zero ∙ at_zeros n (col_at t.pairs k') (tri.nonzero k' lk).1));
            left = λ prime no. (subst (IsVector t.rows.modulus n) (sym rb) (zeros_vector t.rows.modulus n pos), (row C x, reduced));
            split = λ k prime no. reduced;
          };
    }) refl (record {
      modulus = a.modulus;
      rows = a.rows ∙ ap (λ w. above s.rows.matrix (record { height = d; width = n; rows = replicate d (zeros w) })) h.width ∙ refl;
      coefficient_modulus = a.coefficient_modulus;
      coefficients = a.coefficients ∙ ap (λ w. above s.coefficients.matrix (record { height = d; width = r; rows = replicate d (zeros w) })) h.coefficient_width;
    })

-- a unit row is one of residues
unit_vector : {p : ℕ} → 2 ≤ p → (n k : ℕ) → IsVector p n (unit n k)
unit_vector {p} two n k = vector_of p n (λ j. if j == k then 1 else 0) (λ j l. elim (cases_eq j k) [
  | inl e ↦ let f : cond (eqb j k) 1 0 ≡ 1 = cond-true {A = ℕ} (eqb j k) 1 0 (eq-eqb j k e) in omega arith
  | inr d ↦ let f : cond (eqb j k) 1 0 ≡ 0 = cond-false {A = ℕ} (eqb j k) 1 0 (ne_eqb j k d) in omega arith
])

row_pair : {A : Matrix} {qs : List Pair} → Triangular A qs → (k t : ℕ) → k < length qs → t < length qs → row_at qs k ≡ row_at qs t → k ≡ t
row_pair {A} {qs} tri k t lk lt same = elim (cases_eq k t) [
  | inl e ↦ e
  | inr d ↦ elim (cases_lt k t) [ inl less ↦ absurd (triangular_rows tri k t less lt same) | inr more ↦ absurd (triangular_rows tri t k (omega arith) lk (sym same)) ]
]

-- the row that the stored columns and values stand for
spread_row : {R S : ResidueMatrix} {i : ℕ} {cols vals : List ℕ} → R ≡ S → IsMatrix R.modulus R.matrix → i < S.matrix.height → cols ≡ support (row R.matrix i) → vals ≡ nonzeros (row R.matrix i) →
    spread S.matrix.width cols vals ≡ row S.matrix i
spread_row {R} {S} {i} {cols} {vals} same sound li columns values =
    let m : IsMatrix S.modulus S.matrix = subst (λ (T : ResidueMatrix). IsMatrix T.modulus T.matrix) same sound in
    ap₂ (spread S.matrix.width) (columns ∙ ap (λ (T : ResidueMatrix). support (row T.matrix i)) same) (values ∙ ap (λ (T : ResidueMatrix). nonzeros (row T.matrix i)) same)
    ∙ spread_support S.matrix.width (row S.matrix i) (m.each i li).len

-- a row appended by the call for a pivot's row
pub left_pivot : {t : TriangleState} {with_coefficients : Bool} {i k p : ℕ} {qs : List Pair} {R : ResidueMatrix} {old new : SchurRows} → R ≡ t.rows → p ≡ R.modulus → 2 ≤ p → Triangular t.rows.matrix t.pairs → qs ≡ t.pairs →
    IsRowOfPair qs i k → MayTakeRow t old → AddsRow (itself old k) old new → AddsReduced t with_coefficients i old new
left_pivot {t} {with_coefficients} {i} {k} {p} {qs} {R} {old} {new} same value two tri pairs here room added =
    let m : ℕ = t.rows.modulus in
    let big : 2 ≤ m = omega (arith, value, ap (λ (R : ResidueMatrix). R.modulus) same) in
    let at : IsRowOfPair t.pairs i k = subst (λ qs. IsRowOfPair qs i k) pairs here in
    let n : ℕ = t.rows.matrix.width in
    let r : ℕ = length t.pairs in
    record {
      left = itself old k;
      rest = subst (λ n. IsVector m n (zeros old.rows.matrix.width)) room.width (zeros_vector m old.rows.matrix.width (omega arith));
      coefficients = subst (λ r. IsVector m r (unit old.coefficients.matrix.width k)) room.coefficient_width (unit_vector big old.coefficients.matrix.width k);
      is_row = record {
        nothing = λ w. ap zeros room.width;
        itself = λ e k' l w. ap (λ r. unit r k) room.coefficient_width ∙ ap (unit r) (row_pair tri k k' at.0 l (at.1 ∙ sym w));
        left = λ prime none. absurd (none (k, at.0, at.1));
        split = λ e prime none. absurd (none (k, at.0, at.1));
      };
      added = added;
    }

-- where the coefficients aren't kept, nothing is told of a pivot's row
pub left_none : {t : TriangleState} {with_coefficients : Bool} {i k p : ℕ} {qs : List Pair} {R : ResidueMatrix} {old new : SchurRows} → with_coefficients ≡ false → R ≡ t.rows → p ≡ R.modulus → 2 ≤ p → qs ≡ t.pairs →
    IsRowOfPair qs i k → MayTakeRow t old → AddsZeros 1 old new → AddsReduced t with_coefficients i old new
left_none {t} {with_coefficients} {i} {k} {p} {qs} {R} {old} {new} off same value two pairs here room added =
    let m : ℕ = t.rows.modulus in
    let big : 2 ≤ m = omega (arith, value, ap (λ (R : ResidueMatrix). R.modulus) same) in
    let at : IsRowOfPair t.pairs i k = subst (λ qs. IsRowOfPair qs i k) pairs here in
    record {
      left = record { rest = zeros old.rows.matrix.width; coefficients = zeros old.coefficients.matrix.width };
      rest = subst (λ n. IsVector m n (zeros old.rows.matrix.width)) room.width (zeros_vector m old.rows.matrix.width (omega arith));
      coefficients = subst (λ r. IsVector m r (zeros old.coefficients.matrix.width)) room.coefficient_width (zeros_vector m old.coefficients.matrix.width (omega arith));
      is_row = record {
        nothing = λ w. ap zeros room.width;
        itself = λ e. absurd (let f : true ≡ false = sym e ∙ off in cc);
        left = λ prime none. absurd (none (k, at.0, at.1));
        split = λ e. absurd (let f : true ≡ false = sym e ∙ off in cc);
      };
      added = record { modulus = added.modulus; rows = added.rows; coefficient_modulus = added.coefficient_modulus; coefficients = added.coefficients };
    }

-- by the call that keeps the coefficients
pub left_kept : {t : TriangleState} {with_coefficients : Bool} {i : ℕ} {R : ResidueMatrix} {qs : List Pair} {cols vals : List ℕ} {r : Reduced} {old new : SchurRows} → R ≡ t.rows → IsMatrix R.modulus R.matrix → i < t.rows.matrix.height →
    cols ≡ support (row R.matrix i) → vals ≡ nonzeros (row R.matrix i) → qs ≡ t.pairs → ¬ IsPivotRow qs i → FitsReduced t r →
    (IsPrime t.rows.modulus → IsReduced t.rows.modulus t.rows.matrix t.pairs (spread t.rows.matrix.width cols vals) (reduction_of r)) → AddsRow (reduction_of r) old new → AddsReduced t with_coefficients i old new
left_kept {t} {with_coefficients} {i} {R} {qs} {cols} {vals} {r} {old} {new} same sound li columns values pairs none fits reduced added =
    let free : ¬ IsPivotRow t.pairs i = subst (λ qs. ¬ IsPivotRow qs i) pairs none in
    let v : spread t.rows.matrix.width cols vals ≡ row t.rows.matrix i = spread_row same sound li columns values in
    let split : IsPrime t.rows.modulus → IsReduced t.rows.modulus t.rows.matrix t.pairs (row t.rows.matrix i) (reduction_of r) =
    λ prime. subst (λ v. IsReduced t.rows.modulus t.rows.matrix t.pairs v (reduction_of r)) v (reduced prime) in
    record {
      left = reduction_of r;
      rest = fits.rest.vector;
      coefficients = fits.coefficients;
      is_row = record {
        nothing = λ w. absurd (free w);
        itself = λ e k l w. absurd (free (k, l, w));
        left = λ prime no. (fits.rest.vector, (r.coefficients.row, split prime));
        split = λ e prime no. split prime;
      };
      added = added;
    }

-- by the call that doesn't
pub left_rest : {t : TriangleState} {with_coefficients : Bool} {i : ℕ} {R : ResidueMatrix} {qs : List Pair} {cols vals : List ℕ} {w : ResidueRow} {old new : SchurRows} → with_coefficients ≡ false → R ≡ t.rows → IsMatrix R.modulus R.matrix → 2 ≤ R.modulus →
    i < t.rows.matrix.height → cols ≡ support (row R.matrix i) → vals ≡ nonzeros (row R.matrix i) → qs ≡ t.pairs → ¬ IsPivotRow qs i → FitsRest t w →
    (IsPrime t.rows.modulus → IsSchurRow t.rows.modulus t.rows.matrix t.pairs (spread t.rows.matrix.width cols vals) w.row) → MayTakeRow t old →
    AddsRow (record { rest = w.row; coefficients = zeros old.coefficients.matrix.width }) old new → AddsReduced t with_coefficients i old new
left_rest {t} {with_coefficients} {i} {R} {qs} {cols} {vals} {w} {old} {new} off same sound two li columns values pairs none fits schur room added =
    let free : ¬ IsPivotRow t.pairs i = subst (λ qs. ¬ IsPivotRow qs i) pairs none in
    let big : 2 ≤ t.rows.modulus = omega (arith, ap (λ (R : ResidueMatrix). R.modulus) same) in
    let v : spread t.rows.matrix.width cols vals ≡ row t.rows.matrix i = spread_row same sound li columns values in
    record {
      left = record { rest = w.row; coefficients = zeros old.coefficients.matrix.width };
      rest = fits.vector;
      coefficients = subst (λ r. IsVector t.rows.modulus r (zeros old.coefficients.matrix.width)) room.coefficient_width (zeros_vector t.rows.modulus old.coefficients.matrix.width (omega arith));
      is_row = record {
        nothing = λ x. absurd (free x);
        itself = λ e k l x. absurd (free (k, l, x));
        left = λ prime no. subst (λ v. IsSchurRow t.rows.modulus t.rows.matrix t.pairs v w.row) v (schur prime);
        split = λ e. absurd (let f : true ≡ false = sym e ∙ off in cc);
      };
      added = added;
    }

-- the row in which a 1 was set
pub unit_pushed : {u z : List ℕ} {n k w : ℕ} → u ≡ slice_set z k 1 → z ≡ zeros w → w ≡ n → k < n → u ≡ unit n k
unit_pushed {u} {z} {n} {k} {w} e zero same l =
    e ∙ ap (λ z. slice_set z k 1) (zero ∙ ap zeros same) ∙ unit_row n k l
    ∙ list_equal n (list_of n (λ j. if k == j then 1 else 0)) (unit n k) (length_list_of n _) (length_list_of n _) (λ j lj.
    at_list_of n (λ j. if k == j then 1 else 0) j lj ∙ turned j ∙ sym (at_list_of n (λ j. if j == k then 1 else 0) j lj))
  where
    turned : (j : ℕ) → cond {A = ℕ} (eqb k j) 1 0 ≡ cond {A = ℕ} (eqb j k) 1 0
    turned j = elim (cases_eq j k) [
      | inl f ↦ cond-true {A = ℕ} (eqb k j) 1 0 (eq-eqb k j (sym f)) ∙ sym (cond-true {A = ℕ} (eqb j k) 1 0 (eq-eqb j k f))
      | inr d ↦ cond-false {A = ℕ} (eqb k j) 1 0 (ne_eqb k j (λ f. d (sym f))) ∙ sym (cond-false {A = ℕ} (eqb j k) 1 0 (ne_eqb j k d))
    ]

-- no row, as it is met
pub no_part : {t : TriangleState} {with_coefficients : Bool} {R : ResidueMatrix} {qs : List Pair} {s : SchurRows} {w r : ℕ} → R ≡ t.rows → qs ≡ t.pairs → s.rows.modulus ≡ R.modulus → s.coefficients.modulus ≡ R.modulus →
    w ≡ R.matrix.width → r ≡ length qs → s.rows.matrix ≡ record { height = 0; width = w; rows = [] } → s.coefficients.matrix ≡ record { height = 0; width = r; rows = [] } → (from : ℕ) → IsPartTo t with_coefficients from from s
no_part {t} {with_coefficients} {R} {qs} {s} {w} {r} same pairs mb mc wide many b c from =
    let empty : ℕ → Matrix = λ n. record { height = 0; width = n; rows = [] } in
    let modulus : R.modulus ≡ t.rows.modulus = ap (λ (R : ResidueMatrix). R.modulus) same in
    part_none t with_coefficients from (mb ∙ modulus) (mc ∙ modulus) (b ∙ ap empty (wide ∙ ap (λ (R : ResidueMatrix). R.matrix.width) same)) (c ∙ ap empty (many ∙ ap length pairs))

zeros_high : {d : ℕ} {s v : SchurRows} → AddsZeros d s v → v.rows.matrix.height ≡ s.rows.matrix.height + d
zeros_high {d} {s} {v} a = ap (λ (M : Matrix). M.height) a.rows

-- one step of a part, and its last
pub part_step : {t : TriangleState} {with_coefficients : Bool} {from next i p : ℕ} {R : ResidueMatrix} {s u v : SchurRows} → R ≡ t.rows → p ≡ R.modulus → 2 ≤ p → IsMatrix R.modulus R.matrix → Triangular t.rows.matrix t.pairs →
    i < t.rows.matrix.height → IsPartTo t with_coefficients from next s → IsNextFilled R.matrix next i → AddsZeros (i - next) s u → AddsReduced t with_coefficients i u v → IsPartTo t with_coefficients from (i + 1) v
part_step {t} {with_coefficients} {from} {next} {i} {p} {R} {s} {u} {v} same value two sound tri li h found z a =
    let big : 2 ≤ t.rows.modulus = omega (arith, value, ap (λ (R : ResidueMatrix). R.modulus) same) in
    let m : IsMatrix t.rows.modulus t.rows.matrix = subst (λ (T : ResidueMatrix). IsMatrix T.modulus T.matrix) same sound in
    let low = found.low in
    let meet : from + u.rows.matrix.height ≡ i = omega (arith, h.1, zeros_high z) in
    let g : IsPart t with_coefficients from u = part_zeros t with_coefficients from (i - next) s u big m tri h.0 (omega (arith, h.1)) (λ k a b. subst (λ (T : ResidueMatrix). IsZeroRow T.matrix k) same (found.between k (omega (arith, h.1)) (omega (arith, h.1)))) z in
    (part_more t with_coefficients from i u v g meet a, omega (arith, meet, ap (λ (M : Matrix). M.height) a.added.rows))

pub part_end : {t : TriangleState} {with_coefficients : Bool} {from next to p : ℕ} {R : ResidueMatrix} {s v : SchurRows} → R ≡ t.rows → p ≡ R.modulus → 2 ≤ p → IsMatrix R.modulus R.matrix → Triangular t.rows.matrix t.pairs →
    to ≤ t.rows.matrix.height → next ≤ to → IsPartTo t with_coefficients from next s → AreZeroRows R.matrix next to → AddsZeros (to - next) s v → IsPartTo t with_coefficients from to v
part_end {t} {with_coefficients} {from} {next} {to} {p} {R} {s} {v} same value two sound tri high low h none z =
    let big : 2 ≤ t.rows.modulus = omega (arith, value, ap (λ (R : ResidueMatrix). R.modulus) same) in
    let m : IsMatrix t.rows.modulus t.rows.matrix = subst (λ (T : ResidueMatrix). IsMatrix T.modulus T.matrix) same sound in
    (part_zeros t with_coefficients from (to - next) s v big m tri h.0 (omega (arith, h.1)) (λ k a b. subst (λ (T : ResidueMatrix). IsZeroRow T.matrix k) same (none k (omega (arith, h.1)) (omega (arith, h.1)))) z, omega (arith, h.1, zeros_high z))

pub part_takes : {t : TriangleState} {with_coefficients : Bool} {from next i h : ℕ} {R : ResidueMatrix} {s u : SchurRows} → R ≡ t.rows → h ≡ R.matrix.height → h ≤ LARGEST_SIZE → i < t.rows.matrix.height → IsPartTo t with_coefficients from next s → next ≤ i →
    AddsZeros (i - next) s u → MayTakeRow t u
part_takes {t} {with_coefficients} {from} {next} {i} {h} {R} {s} {u} same value bound li part low z =
    let high : h ≡ t.rows.matrix.height = value ∙ ap (λ (R : ResidueMatrix). R.matrix.height) same in
    record {
      modulus = z.modulus ∙ part.0.modulus;
      width = ap (λ (M : Matrix). M.width) z.rows ∙ part.0.width;
      coefficient_modulus = z.coefficient_modulus ∙ part.0.coefficient_modulus;
      coefficient_width = ap (λ (M : Matrix). M.width) z.coefficients ∙ part.0.coefficient_width;
      low = omega (arith, zeros_high z, part.1);
      coefficients_low = omega (arith, ap (λ (M : Matrix). M.height) z.coefficients, part.0.height, part.1);
    }
