-- Rows that join the kept rows one after another.
use Rattle.std.proofs.Common.{ℕ, ◌≡◌, ◌+◌, ◌*◌, ◌%◌, ◌<◌, ◌≤◌, Option, None, Some, List, inl, inr, sym, refl, ap, subst, ◌∙◌, arith, zero-mul}
use Rattle.std.proofs.lemmas.Bool.{cases_eq, cases_lt}
use Rattle.residue_words.specs.Residues.{IsPrime}
use Rattle.residue_words.specs.Matrix.{Matrix, IsMatrix, IsVector, IsCombination, entry, row, zeros}
use Rattle.residue_words.proofs.Sums.{sum_zero}
use Rattle.residue_words.proofs.Vectors.{at_zeros, combination_of, combination_through, row_combination, zeros_vector}
use Rattle.row_space.specs.Echelon.{HasRank, SameSpan}
use Rattle.row_space.specs.Laws.{RrefExists, SpanFixesHeight}
use Rattle.row_space.specs.Rows.{of_rows}
use Rattle.row_space.proofs.Rows as Rows
use Rattle.row_space.proofs.Rows.{rank_of_independent}
use Rattle.row_space.proofs.Spans.{same_span_turned}
use Rattle.sparse_rows.specs.Rows.{AreZeroFrom, IsNextFilled, IsZeroRow, nonzeros, support}
use Rattle.sparse_rows.specs.Stored.{spread, with_row}
use Rattle.sparse_rows.proofs.FilledRows.{zero_row}
use Rattle.sparse_rows.proofs.Spread.{spread_support}
use Rattle.lead_rows.proofs.Appending.{inserts_same, of_own_rows, with_own_row}
use Rattle.lead_rows.proofs.Combining.{leads_independent}
use Rattle.lead_rows.specs.Leads.{Inserts, IsSound, KeptRows, no_rows}

-- a matrix that is made of its own rows
own_matrix : (p : ℕ) (A : Matrix) → IsMatrix p A → IsMatrix p (of_rows A.width A.rows)
own_matrix p A m = subst (IsMatrix p) (sym (of_own_rows p A m)) m

-- the row space grows by it
space_more : (p : ℕ) (A : Matrix) (v u : List ℕ) → 2 ≤ p → IsMatrix p A → IsVector p A.width v → IsCombination p A u → IsCombination p (with_row A v) u
space_more p A v u two m vector c =
    subst (λ B. IsCombination p B u) (with_own_row p A v m)
    (Rows.combination_more p A.width A.rows v u two (own_matrix p A m) vector (subst (λ B. IsCombination p B u) (sym (of_own_rows p A m)) c))

space_last : (p : ℕ) (A : Matrix) (v : List ℕ) → 2 ≤ p → IsMatrix p A → IsVector p A.width v → IsCombination p (with_row A v) v
space_last p A v two m vector =
    subst (λ B. IsCombination p B v) (with_own_row p A v m) (Rows.combination_last p A.width A.rows v two (own_matrix p A m) vector)

-- and stays within a space that has the rows and v
space_within : (p : ℕ) (A B : Matrix) (v u : List ℕ) → 2 ≤ p → IsMatrix p A → A.width ≡ B.width → ((w : List ℕ) → IsCombination p A w → IsCombination p B w) → IsCombination p B v →
    IsCombination p (with_row A v) u → IsCombination p B u
space_within p A B v u two m width old last c =
    combination_through p (Rows.with_row A.width A.rows v) B u (omega arith) width
    (Rows.each_with_row (IsCombination p B) A.width A.rows v
    (λ i l. old (Matrix-row i) (row_combination p A i two m (omega (arith, m.len)))) last)
    (subst (λ C. IsCombination p C u) (sym (with_own_row p A v m)) c)
  where
    Matrix-row : ℕ → List ℕ
    Matrix-row i = row A i

-- the zero row is in each row space
zero_combination : (p : ℕ) (K : Matrix) → 2 ≤ p → IsCombination p K (zeros K.width)
zero_combination p K two = combination_of p K (zeros K.width) (λ k. 0) (omega arith) (zeros_vector p K.width (omega arith)) (λ j l.
    ap (λ x. x % p) (at_zeros K.width j l ∙ sym (sum_zero K.height (λ k. 0 * entry K k j) (λ k b. zero-mul (entry K k j)))))

-- the row space of the kept rows with v, after v was inserted
inserted_span : {old : KeptRows} (new : KeptRows) {v : List ℕ} → IsSound old → IsVector old.modulus old.matrix.width v → (lead : Option ℕ) → Inserts old new v lead → IsPrime old.modulus →
    SameSpan old.modulus (with_row old.matrix v) new.matrix
inserted_span {old} new {v} sound vector (Some c) h prime = same_span_turned old.modulus new.matrix (with_row old.matrix v) (h.span prime)
inserted_span {old} new {v} sound vector None h prime = subst (λ (k : KeptRows). SameSpan old.modulus (with_row old.matrix v) k.matrix) (sym h.0)
    (λ w. (space_within old.modulus old.matrix old.matrix v w sound.two_or_more sound.matrix refl (λ x c. c) h.1, space_more old.modulus old.matrix v w sound.two_or_more sound.matrix vector))

-- there is at most one row more
inserted_few : (old new : KeptRows) (v : List ℕ) (lead : Option ℕ) → Inserts old new v lead → new.matrix.height ≤ old.matrix.height + 1
inserted_few old new v (Some c) h = omega (arith, ap (λ (A : Matrix). A.height) h.matrix)
inserted_few old new v None h = omega (arith, ap (λ (k : KeptRows). k.matrix.height) h.0)

-- the kept rows have the row space of the first i rows of A, and are not more
pub record IsKeeping (p : ℕ) (A : Matrix) (i : ℕ) (kept : KeptRows) : Type 0 where
  pub modulus : kept.modulus ≡ p
  pub width : kept.matrix.width ≡ A.width
  pub inside : i ≤ A.height
  pub few : kept.matrix.height ≤ i
  pub each : IsPrime p → (k : ℕ) → k < i → IsCombination p kept.matrix (row A k)
  pub within : IsPrime p → (u : List ℕ) → IsCombination p kept.matrix u → IsCombination p A u

-- at first there is none
pub keeping_none : (p : ℕ) (A : Matrix) (kept : KeptRows) → kept ≡ no_rows p A.width → IsKeeping p A 0 kept
keeping_none p A kept e = record {
  modulus = ap (λ (k : KeptRows). k.modulus) e;
  width = ap (λ (k : KeptRows). k.matrix.width) e;
  inside = omega arith;
  few = omega (arith, ap (λ (k : KeptRows). k.matrix.height) e);
  each = λ prime k l. absurd (omega arith);
  within = λ prime u. combination_through p kept.matrix A u (omega (arith, prime.two_or_more)) (ap (λ (k : KeptRows). k.matrix.width) e)
      (λ i l. let none : kept.matrix.height ≡ 0 = ap (λ (k : KeptRows). k.matrix.height) e in absurd (omega arith));
}

-- rows of zeros are passed over
keeping_skip : {p : ℕ} {A : Matrix} {from i : ℕ} {kept : KeptRows} → IsMatrix p A → IsKeeping p A from kept → from ≤ i → i ≤ A.height →
    ((k : ℕ) → from ≤ k → k < i → IsZeroRow A k) → IsKeeping p A i kept
keeping_skip {p} {A} {from} {i} {kept} m h low inside none = record {
  modulus = h.modulus;
  width = h.width;
  inside = inside;
  few = omega (arith, h.few);
  each = λ prime k l. elim (cases_lt k from) [
    | inl before ↦ h.each prime k before
    | inr past ↦ subst (IsCombination p kept.matrix) (ap zeros h.width ∙ sym (zero_row m k (omega arith) (none k past l))) (zero_combination p kept.matrix prime.two_or_more)
  ];
  within = h.within;
}

-- row i joins
pub keeping_more : {p : ℕ} {A : Matrix} {from i : ℕ} {old new : KeptRows} {cols vals : List ℕ} → IsMatrix p A → IsSound old → IsKeeping p A from old → IsNextFilled A from i →
    cols ≡ support (row A i) → vals ≡ nonzeros (row A i) → (lead : Option ℕ) → Inserts old new (spread old.matrix.width cols vals) lead → IsKeeping p A (i + 1) new
keeping_more {p} {A} {from} {i} {old} {new} {cols} {vals} m sound before next ce ve lead inserts = record {
  modulus = same.0 ∙ h.modulus;
  width = same.1 ∙ h.width;
  inside = omega (arith, next.below);
  few = omega (arith, h.few, inserted_few old new v lead joined);
  each = λ prime t lt. elim (cases_eq t i) [
    | inl e ↦ subst (λ x. IsCombination p new.matrix (row A x)) (sym e) ((span prime v).0 (space_last p old.matrix v prime.two_or_more own vector))
    | inr d ↦ (span prime (row A t)).0 (space_more p old.matrix v (row A t) prime.two_or_more own vector (h.each prime t (omega arith)))
  ];
  within = λ prime u c. space_within p old.matrix A v u prime.two_or_more own h.width (h.within prime) (row_combination p A i prime.two_or_more m next.below) ((span prime u).1 c);
}
  where
    v : List ℕ
    v = row A i

    h : IsKeeping p A i old
    h = keeping_skip m before next.low (omega (arith, next.below)) next.between

    own : IsMatrix p old.matrix
    own = subst (λ q. IsMatrix q old.matrix) h.modulus sound.matrix

    vector : IsVector p old.matrix.width v
    vector = subst (λ n. IsVector p n v) (sym h.width) (m.each i next.below)

    joined : Inserts old new v lead
    joined = subst (λ r. Inserts old new r lead)
        (ap (λ c. spread old.matrix.width c vals) ce ∙ ap (spread old.matrix.width (support v)) ve ∙ spread_support old.matrix.width v vector.len) inserts

    same : (new.modulus ≡ old.modulus) × (new.matrix.width ≡ old.matrix.width)
    same = inserts_same old new v lead joined

    span : IsPrime p → SameSpan p (with_row old.matrix v) new.matrix
    span = subst (λ q. IsPrime q → SameSpan q (with_row old.matrix v) new.matrix) h.modulus (inserted_span new sound (subst (λ q. IsVector q old.matrix.width v) (sym h.modulus) vector) lead joined)

-- all are there
pub keeping_all : {p : ℕ} {A : Matrix} {from : ℕ} {kept : KeptRows} → IsMatrix p A → IsKeeping p A from kept → AreZeroFrom A from →
    (kept.matrix.height ≤ A.height) × (IsPrime kept.modulus → SameSpan kept.modulus A kept.matrix)
keeping_all {p} {A} {from} {kept} m before none = (
  h.few,
  subst (λ q. IsPrime q → SameSpan q A kept.matrix) (sym h.modulus)
      (λ prime u. (combination_through p A kept.matrix u (omega (arith, prime.two_or_more)) (sym h.width) (h.each prime), h.within prime u)),
)
  where
    h : IsKeeping p A A.height kept
    h = keeping_skip m before before.inside (omega arith) none

-- so their number is the rank
pub rank_of_kept : {p : ℕ} {A : Matrix} {kept : KeptRows} → RrefExists → SpanFixesHeight → IsMatrix p A → IsSound kept → kept.modulus ≡ p → kept.matrix.width ≡ A.width →
    (IsPrime kept.modulus → SameSpan kept.modulus A kept.matrix) → IsPrime p → HasRank p A kept.matrix.height
rank_of_kept {p} {A} {kept} exists fixes m sound modulus width span prime =
    rank_of_independent exists fixes p A kept.matrix prime m (subst (λ q. IsMatrix q kept.matrix) modulus sound.matrix) (sym width)
    (leads_independent p kept.matrix kept.leads sound.leads) (subst (λ q. IsPrime q → SameSpan q A kept.matrix) modulus span prime)
