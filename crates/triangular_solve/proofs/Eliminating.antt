-- Sums at pivots that are taken away by multiples of the pivots' rows.
use Rattle.std.proofs.Common.{ℕ, suc, ◌≡◌, ◌≢◌, ◌+◌, ◌-◌, ◌*◌, ◌%◌, ◌<◌, ◌≤◌, cond, eqb, List, [], ◌∷◌, length, slice_index, slice_set, take, drop, inl, inr, sym, refl, ap, ap₂, subst, ◌∙◌, arith, eq-eqb, ne_eqb, mod-eq_of_lt, zero-mul}
use native.Mathlib.Nat.{mod-mod}
use Rattle.std.proofs.lemmas.Bool.{cases_eq, cases_lt, cond-true, cond-false}
use Rattle.std.proofs.lemmas.List.{length-set, get_or-set_same, get_or-set_other, get_or_past, take_all}
use Rattle.residue_words.specs.Residues.{IsPrime, sum_below}
use Rattle.residue_words.specs.Matrix.{IsMatrix, IsVector, entry, row, zeros}
use Rattle.residue_words.proofs.Residues.{add_same, mul_same, multiple_zero}
use Rattle.residue_words.proofs.Sums.{sum_add, sum_equal, sum_single, sum_zero}
use Rattle.residue_words.proofs.Vectors.{at_zeros, list_equal}
use Rattle.sparse_rows.specs.ColumnSet.{TakesFirst}
use Rattle.sparse_rows.specs.Rows.{AddsAt, AddsMultiple, ResidueMatrix, ResidueRow, nonzeros, support}
use Rattle.sparse_rows.specs.Stored.{IsSparse, entry_at}
use Rattle.sparse_rows.proofs.Loops.{length_zeros}
use Rattle.sparse_rows.proofs.Spread.{entry_cover, entry_support, entry_tail, support_sparse}
use Rattle.triangular_solve.specs.PivotRows.{AreInverses, AreColumnSums, ArePlaced, Eliminates, IsEliminated, IsEliminating, PlacedRows}
use Rattle.lead_rows.proofs.Draining.{set_vector}
use Rattle.lead_rows.proofs.Extent.{extent, extent_falls}
use Rattle.triangular_solve.proofs.JoinedRows.{support_nonzero, support_place}

-- the inverses of the first k pivots
pub record AreInversesBelow (A : ResidueMatrix) (k : ℕ) (inverses : List ℕ) : Type 0 where
  pub many : length inverses ≡ k
  pub residues : (t : ℕ) → t < k → slice_index inverses t < A.modulus
  pub inverse : IsPrime A.modulus → (t : ℕ) → t < k → (entry A.matrix t t * slice_index inverses t) % A.modulus ≡ 1

-- the first entry of a row stands on the diagonal
pub first_place : {p n : ℕ} {w : List ℕ} → IsVector p n w → (k : ℕ) → slice_index w k ≢ 0 → ((i : ℕ) → i < k → slice_index w i ≡ 0) → (0 < length (support w)) × (slice_index (support w) 0 ≡ k)
first_place {p} {n} {w} vector k ne zero_before =
    let f = support_place w k ne in
    let s = support_sparse vector in
    let some : 0 < length (support w) = omega (arith, f.1) in (
      some,
      elim (cases_eq f.0 0) [
        | inl e ↦ ap (slice_index (support w)) (sym e) ∙ f.2
        | inr d ↦ absurd (support_nonzero vector 0 some (zero_before (slice_index (support w) 0) (omega (arith, s.rising 0 f.0 (omega arith) f.1, f.2))))
      ],
    )

-- what follows the first item
abbrev pub behind_first : List ℕ → List ℕ
behind_first xs = take (length xs - 1) (drop 1 xs)

behind_is : (x : ℕ) (xs : List ℕ) → behind_first (x ∷ xs) ≡ xs
behind_is x xs = take_all (length (x ∷ xs) - 1) xs (omega arith)

pub behind_sparse : {p n : ℕ} (cs vs : List ℕ) → IsSparse p n cs vs → IsSparse p n (behind_first cs) (behind_first vs)
behind_sparse {p} {n} [] [] s = s
behind_sparse {p} {n} [] (v ∷ vs) s = absurd (omega (arith, s.long))
behind_sparse {p} {n} (c ∷ cs) [] s = absurd (omega (arith, s.long))
behind_sparse {p} {n} (c ∷ cs) (v ∷ vs) s = subst (λ us. IsSparse p n us (behind_first (v ∷ vs))) (sym (behind_is c cs)) (subst (IsSparse p n cs) (sym (behind_is v vs)) (record {
  long = omega (arith, s.long);
  rising = λ k t a l. s.rising (suc k) (suc t) (omega arith) (omega arith);
  below = λ k l. s.below (suc k) (omega arith);
  positive = λ k l. s.positive (suc k) (omega arith);
  residues = λ k l. s.residues (suc k) (omega arith);
}))

pub behind_same : {p n : ℕ} (cs vs : List ℕ) → IsSparse p n cs vs → 0 < length cs → entry_at (behind_first cs) (behind_first vs) (slice_index cs 0) ≡ 0
behind_same {p} {n} [] vs s l = absurd (omega arith)
behind_same {p} {n} (c ∷ cs) [] s l = absurd (omega (arith, s.long))
behind_same {p} {n} (c ∷ cs) (v ∷ vs) s l = ap₂ (λ us ws. entry_at us ws c) (behind_is c cs) (behind_is v vs) ∙ elim (entry_cover cs vs c) [
  | inl z ↦ z
  | inr w ↦ absurd (omega (arith, s.rising 0 (suc w.0) (omega arith) (omega (arith, w.1)), w.2))
]

pub behind_other : {p n : ℕ} (cs vs : List ℕ) (j : ℕ) → IsSparse p n cs vs → 0 < length cs → slice_index cs 0 ≢ j → entry_at (behind_first cs) (behind_first vs) j ≡ entry_at cs vs j
behind_other {p} {n} [] vs j s l d = absurd (omega arith)
behind_other {p} {n} (c ∷ cs) [] j s l d = absurd (omega (arith, s.long))
behind_other {p} {n} (c ∷ cs) (v ∷ vs) j s l d = ap₂ (λ us ws. entry_at us ws j) (behind_is c cs) (behind_is v vs) ∙ sym (entry_tail c cs v vs j d)

-- s + g u + f u is s where g is -f
pub back : (p s u f g : ℕ) → f < p → g ≡ (p - f) % p → ((s + g * u) % p + f * u) % p ≡ s % p
back p s u f g small e =
    let self : p % p ≡ 0 = (let one : p ≡ 1 * p = omega arith in ap (λ x. x % p) one ∙ multiple_zero p 1) in
    let turn : (g + f) % p ≡ 0 = add_same p g (p - f) f f (ap (λ x. x % p) e ∙ mod-mod (p - f) p) refl ∙ (let whole : p - f + f ≡ p = omega arith in ap (λ x. x % p) whole) ∙ self in
    let first : ((s + g * u) % p + f * u) % p ≡ ((s + g * u) + f * u) % p = add_same p ((s + g * u) % p) (s + g * u) (f * u) (f * u) (mod-mod (s + g * u) p) refl in
    let collect : (s + g * u) + f * u ≡ s + (g + f) * u = omega arith in
    let none : 0 * u ≡ 0 = omega arith in
    let gone : ((g + f) * u) % p ≡ 0 % p = mul_same p (g + f) 0 u u (turn ∙ sym (mod-eq_of_lt (omega arith))) refl ∙ ap (λ x. x % p) none in
    let last : s + 0 ≡ s = omega arith in
    first ∙ ap (λ x. x % p) collect ∙ add_same p s s ((g + f) * u) 0 refl gone ∙ ap (λ x. x % p) last

-- x times an inverse of u, times u, is x
over : (p x i u f : ℕ) → 2 ≤ p → x < p → f ≡ (x * i) % p → (u * i) % p ≡ 1 → x ≡ (0 + f * u) % p
over p x i u f two small e inv =
    let turn : x * i * u ≡ x * (u * i) = omega arith in
    let one : x * 1 ≡ x = omega arith in
    let plain : 0 + f * u ≡ f * u = omega arith in
    sym (
    ap (λ y. y % p) plain
    ∙ mul_same p f (x * i) u u (ap (λ y. y % p) e ∙ mod-mod (x * i) p) refl
    ∙ ap (λ y. y % p) turn
    ∙ mul_same p x x (u * i) 1 refl (inv ∙ sym (mod-eq_of_lt (omega arith)))
    ∙ ap (λ y. y % p) one ∙ mod-eq_of_lt small
    )

-- the first sum, which stands at a pivot, is taken away by the pivot's row
module _ (placed : PlacedRows) {s s1 inverses cs vs : List ℕ} {k v : ℕ} (two : 2 ≤ placed.rows.modulus) (m : IsMatrix placed.rows.modulus placed.rows.matrix) (P : ArePlaced placed) (I : AreInverses placed.rows inverses)
    (vector : IsVector placed.rows.modulus (length placed.columns) s) (t : TakesFirst s s1 k v) (high : k < placed.rows.matrix.height) (is_cols : cs ≡ support (row placed.rows.matrix k)) (is_vals : vs ≡ nonzeros (row placed.rows.matrix k)) where
  at : List ℕ
  at = row placed.rows.matrix k

  row_vector : IsVector placed.rows.modulus placed.rows.matrix.width (row placed.rows.matrix k)
  row_vector = m.each k high

  here : (0 < length (support (row placed.rows.matrix k))) × (slice_index (support (row placed.rows.matrix k)) 0 ≡ k)
  here = first_place row_vector k (P.upper.diagonal k high) (λ i l. P.upper.upper k i high l)

  pub tail_some : (1 ≤ length cs) × (1 ≤ length vs)
  tail_some = let s = support_sparse row_vector in (omega (arith, ap length is_cols, here.0), omega (arith, ap length is_vals, here.0, s.long))

  stored : IsSparse placed.rows.modulus placed.rows.matrix.width cs vs
  stored = subst (λ us. IsSparse placed.rows.modulus placed.rows.matrix.width us vs) (sym is_cols) (subst (IsSparse placed.rows.modulus placed.rows.matrix.width (support (row placed.rows.matrix k))) (sym is_vals) (support_sparse row_vector))

  pub tail_sparse : (p n : ℕ) → p ≡ placed.rows.modulus → n ≡ length s → IsSparse p n (behind_first cs) (behind_first vs)
  tail_sparse p n e f = subst (λ q. IsSparse q n (behind_first cs) (behind_first vs)) (sym e)
      (subst (λ n. IsSparse placed.rows.modulus n (behind_first cs) (behind_first vs)) (P.width ∙ sym vector.len ∙ sym f) (behind_sparse cs vs stored))

  tail_at : entry_at (behind_first cs) (behind_first vs) k ≡ 0
  tail_at = ap (entry_at (behind_first cs) (behind_first vs)) (sym (ap (λ us. slice_index us 0) is_cols ∙ here.1)) ∙ behind_same cs vs stored (omega (arith, tail_some.0))

  tail_other : (i : ℕ) → i ≢ k → entry_at (behind_first cs) (behind_first vs) i ≡ entry placed.rows.matrix k i
  tail_other i d =
      behind_other cs vs i stored (omega (arith, tail_some.0)) (λ e. d (sym e ∙ ap (λ us. slice_index us 0) is_cols ∙ here.1)) ∙ ap₂ (λ us ws. entry_at us ws i) is_cols is_vals ∙ entry_support (row placed.rows.matrix k) i

  was_other : (i : ℕ) → i ≢ k → slice_index s1 i ≡ slice_index s i
  was_other i d = ap (λ l. slice_index l i) t.after ∙ get_or-set_other s k i 0 0 d

  was_here : slice_index s1 k ≡ 0
  was_here = ap (λ l. slice_index l k) t.after ∙ get_or-set_same s k 0 0 t.inside

  length_same : length s1 ≡ length placed.columns
  length_same = ap length t.after ∙ length-set s k 0 ∙ vector.len

  module _ (f g : ℕ) (is_f : f ≡ (v * slice_index inverses k) % placed.rows.modulus) (low : f < placed.rows.modulus) (is_g : g ≡ (placed.rows.modulus - f) % placed.rows.modulus) {a b : ResidueRow} (is_a : a ≡ record { modulus = placed.rows.modulus; row = s1 }) (added : AddsMultiple g (behind_first cs) (behind_first vs) a b) where
    p : ℕ
    p = placed.rows.modulus

    sums : (i : ℕ) → i < length placed.columns → slice_index b.row i ≡ (slice_index s1 i + g * entry_at (behind_first cs) (behind_first vs) i) % placed.rows.modulus
    sums i l = subst (λ (a : ResidueRow). i < length a.row → slice_index b.row i ≡ (slice_index a.row i + g * entry_at (behind_first cs) (behind_first vs) i) % a.modulus) is_a (added.sums i) (omega (arith, length_same))

    pub eliminated_sums : AreColumnSums placed b
    eliminated_sums = record {
      modulus = added.modulus ∙ ap (λ (r : ResidueRow). r.modulus) is_a;
      vector = subst (λ n. IsVector placed.rows.modulus n b.row) length_same (subst (λ (a : ResidueRow). IsVector a.modulus (length a.row) b.row) is_a added.vector);
    }

    inside : (i : ℕ) → i ≤ k → i < length placed.columns
    inside i le = omega (arith, t.inside, vector.len)

    zero_to : (i : ℕ) → i ≤ k → slice_index b.row i ≡ 0
    zero_to i le = elim (cases_eq i k) [
      | inl e ↦
          let none : slice_index s1 i + g * entry_at (behind_first cs) (behind_first vs) i ≡ 0 = omega (arith, ap (slice_index s1) e, was_here, ap (λ j. g * entry_at (behind_first cs) (behind_first vs) j) e, ap (λ y. g * y) tail_at) in
          sums i (inside i le) ∙ ap (λ y. y % placed.rows.modulus) none ∙ mod-eq_of_lt (omega (arith, two))
      | inr d ↦
          let up : entry placed.rows.matrix k i ≡ 0 = P.upper.upper k i high (omega arith) in
          let none : slice_index s1 i + g * entry_at (behind_first cs) (behind_first vs) i ≡ 0 = omega (arith, was_other i d, t.before i (omega arith), ap (λ y. g * y) (tail_other i d ∙ up)) in
          sums i (inside i le) ∙ ap (λ y. y % placed.rows.modulus) none ∙ mod-eq_of_lt (omega (arith, two))
    ]

    pub eliminated : Eliminates placed s b.row k f
    eliminated = record {
      inside = high;
      nonzero = λ z. t.nonzero (t.value ∙ z);
      zero = zero_to;
      residue = low;
      sums = λ prime i l. elim (cases_eq i k) [
        | inl e ↦
            ap (slice_index s) e ∙ sym t.value
            ∙ over placed.rows.modulus v (slice_index inverses k) (entry placed.rows.matrix k k) f two (omega (arith, t.value, vector.residues k (omega (arith, t.inside, vector.len)))) is_f (I.inverse prime k high)
            ∙ ap (λ y. (y + f * entry placed.rows.matrix k k) % placed.rows.modulus) (sym (zero_to k (omega arith)))
            ∙ ap (λ j. (slice_index b.row j + f * entry placed.rows.matrix k j) % placed.rows.modulus) (sym e)
        | inr d ↦
            let now : slice_index b.row i ≡ (slice_index s i + g * entry placed.rows.matrix k i) % placed.rows.modulus =
            sums i l ∙ ap (λ y. (y + g * entry_at (behind_first cs) (behind_first vs) i) % placed.rows.modulus) (was_other i d) ∙ ap (λ y. (slice_index s i + g * y) % placed.rows.modulus) (tail_other i d) in
            sym (
            ap (λ y. (y + f * entry placed.rows.matrix k i) % placed.rows.modulus) now
            ∙ back placed.rows.modulus (slice_index s i) (entry placed.rows.matrix k i) f g low is_g
            ∙ mod-eq_of_lt (vector.residues i l)
            )
      ];
    }

-- a sum that does not stand at a pivot is put back
pub put_back : {placed : PlacedRows} {s : ResidueRow} {a b : ResidueRow} {k v : ℕ} → AreColumnSums placed s → TakesFirst s.row a.row k v → a.modulus ≡ s.modulus → placed.rows.matrix.height ≤ k → AddsAt k v a b →
    (b ≡ s) × IsEliminated placed s.row
put_back {placed} {s} {a} {b} {k} {v} sums t m le add =
    let l : k < length placed.columns = omega (arith, t.inside, sums.vector.len) in
    let small : v < s.modulus = omega (arith, t.value, sums.vector.residues k l, sums.modulus) in
    let none : slice_index a.row k ≡ 0 = ap (λ xs. slice_index xs k) t.after ∙ get_or-set_same s.row k 0 0 t.inside in
    let plain : 0 + v ≡ v = omega arith in
    let value : (slice_index a.row k + v) % a.modulus ≡ slice_index s.row k = ap₂ (λ x q. (x + v) % q) none m ∙ ap (λ x. x % s.modulus) plain ∙ mod-eq_of_lt small ∙ t.value in
    let back : b.row ≡ s.row =
    list_equal (length s.row) b.row s.row (ap length add.row ∙ length-set a.row k _ ∙ ap length t.after ∙ length-set s.row k 0) refl (λ j lj. ap (λ xs. slice_index xs j) add.row ∙ elim (cases_eq j k) [
      | inl e ↦ ap (slice_index (slice_set a.row k ((slice_index a.row k + v) % a.modulus))) e ∙ get_or-set_same a.row k _ 0 (omega (arith, ap length t.after, length-set s.row k 0, t.inside)) ∙ value ∙ ap (slice_index s.row) (sym e)
      | inr d ↦ get_or-set_other a.row k j _ 0 d ∙ ap (λ xs. slice_index xs j) t.after ∙ get_or-set_other s.row k j 0 0 d
    ]) in
    (same_row (add.modulus ∙ m) back, (λ i li. t.before i (omega arith)))
  where
    same_row : {b s : ResidueRow} → b.modulus ≡ s.modulus → b.row ≡ s.row → b ≡ s
    same_row e f = λ i. record { modulus = e i; row = f i }

-- a sum of products, one factor of which was 0 and is f
sum_set : (n : ℕ) (xs : List ℕ) (a : ℕ → ℕ) (c f : ℕ) → c < n → length xs ≡ n → slice_index xs c ≡ 0 →
    sum_below n (λ k. slice_index (slice_set xs c f) k * a k) ≡ sum_below n (λ k. slice_index xs k * a k) + f * a c
sum_set n xs a c f l len none =
    sum_equal n (λ k. slice_index (slice_set xs c f) k * a k) (λ k. slice_index xs k * a k + cond (eqb k c) (f * a c) 0) (λ k lk. elim (cases_eq k c) [
      | inl e ↦
          let v : slice_index (slice_set xs c f) k ≡ f = ap (slice_index (slice_set xs c f)) e ∙ get_or-set_same xs c f 0 (omega arith) in
          let z : slice_index xs k ≡ 0 = ap (slice_index xs) e ∙ none in
          let w : cond (eqb k c) (f * a c) 0 ≡ f * a c = cond-true (eqb k c) (f * a c) 0 (eq-eqb k c e) in
          let b : a k ≡ a c = ap a e in
          ap (λ x. x * a k) v ∙ ap (λ x. f * x) b ∙ sym (omega (arith, w, ap (λ x. x * a k) z))
      | inr d ↦
          let v : slice_index (slice_set xs c f) k ≡ slice_index xs k = get_or-set_other xs c k f 0 d in
          let w : cond (eqb k c) (f * a c) 0 ≡ 0 = cond-false (eqb k c) (f * a c) 0 (ne_eqb k c d) in
          ap (λ x. x * a k) v ∙ omega (arith, w)
    ])
    ∙ sum_add n (λ k. slice_index xs k * a k) (λ k. cond (eqb k c) (f * a c) 0)
    ∙ ap (λ x. sum_below n (λ k. slice_index xs k * a k) + x)
    (sum_single n (λ k. cond (eqb k c) (f * a c) 0) c l (λ k lk d. cond-false (eqb k c) (f * a c) 0 (ne_eqb k c d)) ∙ cond-true (eqb c c) (f * a c) 0 (eq-eqb c c refl))

pub eliminating_none : (placed : PlacedRows) (v c : List ℕ) → 0 < placed.rows.modulus → IsVector placed.rows.modulus (length placed.columns) v → c ≡ zeros placed.rows.matrix.height → IsEliminating placed v v c
eliminating_none placed v c pos vector e = record {
  residues = record { len = ap length e ∙ length_zeros placed.rows.matrix.height; residues = λ k l. omega (arith, none k l) };
  behind = λ i t n le l. none t l;
  sums = λ prime i l.
      let z : sum_below placed.rows.matrix.height (λ k. slice_index c k * entry placed.rows.matrix k i) ≡ 0 =
      sum_zero placed.rows.matrix.height (λ k. slice_index c k * entry placed.rows.matrix k i) (λ k lk. ap (λ x. x * entry placed.rows.matrix k i) (none k lk) ∙ zero-mul (entry placed.rows.matrix k i)) in
      let plain : slice_index v i + sum_below placed.rows.matrix.height (λ k. slice_index c k * entry placed.rows.matrix k i) ≡ slice_index v i = omega (arith, z) in
      sym (ap (λ x. x % placed.rows.modulus) plain ∙ mod-eq_of_lt (vector.residues i l));
}
  where
    none : (k : ℕ) → k < placed.rows.matrix.height → slice_index c k ≡ 0
    none k l = ap (λ xs. slice_index xs k) e ∙ at_zeros placed.rows.matrix.height k l

pub eliminating_more : {placed : PlacedRows} {v s s1 c next : List ℕ} {k f : ℕ} → 2 ≤ placed.rows.modulus → IsEliminating placed v s c → Eliminates placed s s1 k f → next ≡ slice_set c k f → IsEliminating placed v s1 next
eliminating_more {placed} {v} {s} {s1} {c} {next} {k} {f} two e step is = subst (IsEliminating placed v s1) (sym is) (record {
  residues = set_vector e.residues k f step.residue;
  behind = λ i t n le l.
      let later : k < i = elim (cases_lt k i) [ inl b ↦ b | inr ge ↦ absurd (n (step.zero i (omega arith))) ] in
      get_or-set_other c k t f 0 (λ z. absurd (omega arith)) ∙ e.behind k t step.nonzero (omega arith) l;
  sums = λ prime i l.
      let p : ℕ = placed.rows.modulus in
      let u : ℕ = entry placed.rows.matrix k i in
      let S : ℕ = sum_below placed.rows.matrix.height (λ k. slice_index c k * entry placed.rows.matrix k i) in
      let regroup : (slice_index s1 i + f * u) + S ≡ slice_index s1 i + (S + f * u) = omega arith in
      e.sums prime i l
      ∙ add_same p (slice_index s i) (slice_index s1 i + f * u) S S (ap (λ x. x % p) (step.sums prime i l) ∙ mod-mod (slice_index s1 i + f * u) p) refl
      ∙ ap (λ x. x % p) regroup
      ∙ ap (λ x. (slice_index s1 i + x) % p) (sym (sum_set placed.rows.matrix.height c (λ k. entry placed.rows.matrix k i) k f step.inside e.residues.len (e.behind k k step.nonzero (omega arith) step.inside)));
})

pub eliminating_skips : {placed : PlacedRows} {v s s1 c : List ℕ} {k f : ℕ} → 2 ≤ placed.rows.modulus → IsEliminating placed v s c → Eliminates placed s s1 k f → f ≡ 0 → IsEliminating placed v s1 c
eliminating_skips {placed} {v} {s} {s1} {c} {k} {f} two e step z = eliminating_more two e step (list_equal (length c) c (slice_set c k f) refl (length-set c k f) (λ j l. elim (cases_eq j k) [
  | inl same ↦ ap (slice_index c) same ∙ e.behind k k step.nonzero (omega arith) step.inside ∙ sym (ap (slice_index (slice_set c k f)) same ∙ get_or-set_same c k f 0 (omega (arith, step.inside, e.residues.len)) ∙ z)
  | inr d ↦ sym (get_or-set_other c k j f 0 d)
]))

pub eliminated_falls : {placed : PlacedRows} {s : List ℕ} {b : ResidueRow} {k f : ℕ} → IsVector placed.rows.modulus (length placed.columns) s → AreColumnSums placed b → Eliminates placed s b.row k f → extent b.row < extent s
eliminated_falls {placed} {s} {b} {k} {f} vector sums step =
    let inside : k < length s = elim (cases_lt k (length s)) [ inl l ↦ l | inr ge ↦ absurd (step.nonzero (get_or_past s k 0 (omega arith))) ] in
    extent_falls s b.row k (sums.vector.len ∙ sym vector.len) inside step.nonzero step.zero
