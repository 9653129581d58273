-- Rows that are appended one after another, and what they span.
use Rattle.std.proofs.Common.{ℕ, zero, suc, ◌≡◌, ◌+◌, ◌-◌, ◌<◌, ◌≤◌, Bool, List, [], take, refl, sym, ap, ◌∙◌, subst, arith}
use Rattle.std.proofs.lemmas.List.{get_or-take, length-take-le, take_all, take_more}
use Rattle.residue_words.specs.Matrix.{Matrix, IsMatrix, IsVector, row}
use Rattle.residue_words.specs.Residues.{IsPrime}
use Rattle.row_space.specs.Echelon.{SameSpan}
use Rattle.row_space.proofs.Rows.{differs_by_none, differs_by_zero}
use Rattle.row_space.proofs.Spans.{same_span_chained}
use Rattle.sparse_rows.specs.Rows.{AreZeroFrom, IsNextFilled, IsZeroRow, ResidueMatrix, nonzeros, support}
use Rattle.sparse_rows.specs.Stored.{spread, with_row}
use Rattle.sparse_rows.proofs.FilledRows.{zero_entry}
use Rattle.sparse_rows.proofs.Spread.{spread_support}
use Rattle.grow_form.specs.Growing.{AppendsRow, SpansRowsOf, without_rows}
use Rattle.grow_form.proofs.Growing.{same_span_more, same_span_old}

-- these rows modulo the modulus of A, as wide as A
abbrev pub with_rows : ResidueMatrix → Matrix → ResidueMatrix
with_rows A rows = record { modulus = A.modulus; matrix = rows }

-- a row more, of A and of the rows that span it
pub spans_more : (A old new : ResidueMatrix) (v : List ℕ) (rose : Bool) → IsMatrix A.modulus A.matrix → IsVector A.modulus A.matrix.width v → SpansRowsOf A old → AppendsRow old new v rose →
    SpansRowsOf (with_rows A (with_row A.matrix v)) new
spans_more A old new v rose m vector s a = record {
  modulus = a.modulus ∙ s.modulus;
  width = a.width ∙ s.width;
  matrix = subst (λ q. IsMatrix q new.matrix) s.modulus a.matrix;
  span = λ prime.
      let first : SameSpan A.modulus new.matrix (with_row old.matrix v) = subst (λ q. SameSpan q new.matrix (with_row old.matrix v)) s.modulus (a.span (subst IsPrime (sym s.modulus) prime)) in
      same_span_chained A.modulus new.matrix (with_row old.matrix v) (with_row A.matrix v) first
      (same_span_more A.modulus old.matrix A.matrix v prime.two_or_more s.matrix m (sym s.width) (subst (λ n. IsVector A.modulus n v) (sym s.width) vector) (s.span prime));
}

-- the first i rows
abbrev pub first_rows : ℕ → ResidueMatrix → ResidueMatrix
first_rows i A = with_rows A (record { height = i; width = A.matrix.width; rows = take i A.matrix.rows })

first_residues : (A : ResidueMatrix) (i : ℕ) → IsMatrix A.modulus A.matrix → i ≤ A.matrix.height → IsMatrix A.modulus (first_rows i A).matrix
first_residues A i m few = record {
  len = length-take-le i A.matrix.rows (omega (arith, few, m.len));
  each = λ k l. subst (IsVector A.modulus A.matrix.width) (sym (get_or-take i A.matrix.rows k [] l)) (m.each k (omega arith));
}

-- at first none was appended
pub spans_none : (A grow : ResidueMatrix) → grow ≡ without_rows A.modulus A.matrix.width → SpansRowsOf (first_rows 0 A) grow
spans_none A grow e = subst (SpansRowsOf (first_rows 0 A)) (sym e) (record {
  modulus = refl;
  width = refl;
  matrix = record { len = refl; each = λ i l. absurd (omega (arith, l)) };
  span = λ prime v. ((λ c. c), (λ c. c));
})

-- one row more of them is row i behind the first i
first_more : (A : ResidueMatrix) (i : ℕ) → IsMatrix A.modulus A.matrix → i < A.matrix.height → (first_rows (i + 1) A).matrix ≡ with_row (first_rows i A).matrix (row A.matrix i)
first_more A i m l = ap (λ rows. record { height = i + 1; width = A.matrix.width; rows = rows }) (take_more A.matrix.rows i [] (omega (arith, l, m.len)))

-- a row of zeros is passed over
spans_zero : (A grow : ResidueMatrix) (i : ℕ) → IsMatrix A.modulus A.matrix → i < A.matrix.height → IsZeroRow A.matrix i → SpansRowsOf (first_rows i A) grow → SpansRowsOf (first_rows (i + 1) A) grow
spans_zero A grow i m l z s = record {
  modulus = s.modulus;
  width = s.width;
  matrix = s.matrix;
  span = λ prime.
      let p : ℕ = A.modulus in
      let first : Matrix = (first_rows i A).matrix in
      let v : List ℕ = row A.matrix i in
      let vector : IsVector p A.matrix.width v = m.each i l in
      let two : 2 ≤ p = prime.two_or_more in
      subst (SameSpan p grow.matrix) (sym (first_more A i m l))
      (same_span_chained p grow.matrix first (with_row first v) (s.span prime)
      (same_span_old p first v two (first_residues A i m (omega (arith, l))) vector
      (differs_by_zero p first v v two vector (differs_by_none p first v two vector) (λ j b. zero_entry m i j l b z))));
}

spans_zeros : (A grow : ResidueMatrix) (i d : ℕ) → IsMatrix A.modulus A.matrix → i + d ≤ A.matrix.height → ((k : ℕ) → i ≤ k → k < i + d → IsZeroRow A.matrix k) →
    SpansRowsOf (first_rows i A) grow → SpansRowsOf (first_rows (i + d) A) grow
spans_zeros A grow i zero m l none s =
    let plain : i ≡ i + 0 = omega arith in
    subst (λ k. SpansRowsOf (first_rows k A) grow) plain s
spans_zeros A grow i (suc d) m l none s =
    let plain : i + 1 + d ≡ i + suc d = omega arith in
    subst (λ k. SpansRowsOf (first_rows k A) grow) plain
    (spans_zeros A grow (i + 1) d m (omega arith) (λ k a b. none k (omega arith) (omega arith))
    (spans_zero A grow i m (omega arith) (none i (omega arith) (omega arith)) s))

-- and so are all up to row i
spans_past : (A grow : ResidueMatrix) (from i : ℕ) → IsMatrix A.modulus A.matrix → from ≤ i → i ≤ A.matrix.height → ((k : ℕ) → from ≤ k → k < i → IsZeroRow A.matrix k) →
    SpansRowsOf (first_rows from A) grow → SpansRowsOf (first_rows i A) grow
spans_past A grow from i m low inside none s =
    let e : from + (i - from) ≡ i = omega arith in
    subst (λ k. SpansRowsOf (first_rows k A) grow) e (spans_zeros A grow from (i - from) m (omega arith) (λ k a b. none k a (omega arith)) s)

-- the next row with an entry was appended
pub spans_next : (A old new : ResidueMatrix) (from i : ℕ) (cols vals : List ℕ) (rose : Bool) → IsMatrix A.modulus A.matrix → IsNextFilled A.matrix from i → cols ≡ support (row A.matrix i) → vals ≡ nonzeros (row A.matrix i) →
    SpansRowsOf (first_rows from A) old → AppendsRow old new (spread old.matrix.width cols vals) rose → SpansRowsOf (first_rows (i + 1) A) new
spans_next A old new from i cols vals rose m next ce ve s a =
    let n = A.matrix.width in
    let l : i < A.matrix.height = next.below in
    let v : List ℕ = row A.matrix i in
    let is_row : spread old.matrix.width cols vals ≡ v =
    ap (λ k. spread k cols vals) s.width ∙ ap (λ c. spread n c vals) ce ∙ ap (spread n (support v)) ve ∙ spread_support n v (m.each i l).len in
    subst (λ M. SpansRowsOf (with_rows A M) new) (sym (first_more A i m l))
    (spans_more (first_rows i A) old new v rose (first_residues A i m (omega (arith, l))) (m.each i l)
    (spans_past A old from i m next.low (omega (arith, l)) next.between s) (subst (λ u. AppendsRow old new u rose) is_row a))

-- no other has one
pub spans_all : (A grow : ResidueMatrix) (from : ℕ) → IsMatrix A.modulus A.matrix → from ≤ A.matrix.height → AreZeroFrom A.matrix from → SpansRowsOf (first_rows from A) grow → SpansRowsOf A grow
spans_all A grow from m inside none s =
    let all : take A.matrix.height A.matrix.rows ≡ A.matrix.rows = take_all A.matrix.height A.matrix.rows (omega (arith, m.len)) in
    subst (λ rows. SpansRowsOf (with_rows A (record { height = A.matrix.height; width = A.matrix.width; rows = rows })) grow) all
    (spans_past A grow from A.matrix.height m inside (omega arith) none s)
