-- Values that come to sums of which flat rows take the pivots away.
use Rattle.std.proofs.Common.{ℕ, suc, ◌≡◌, ◌≢◌, ◌+◌, ◌-◌, ◌*◌, ◌%◌, ◌<◌, ◌≤◌, List, [], length, slice_index, slice_set, take, inl, inr, sym, refl, ap, ap₂, subst, ◌∙◌, arith, mod-eq_of_lt, mod-lt}
use native.Mathlib.Nat.{mod-mod}
use Rattle.std.proofs.lemmas.Bool.{cases_eq, cases_lt}
use Rattle.std.proofs.lemmas.List.{length-set, get_or-set_same, get_or-set_other, take_all}
use Rattle.residue_words.specs.Residues.{IsPrime}
use Rattle.residue_words.specs.Matrix.{Matrix, IsCombination, IsMatrix, IsVector, entry, row, zeros}
use Rattle.residue_words.proofs.Residues.{add_same, minus_one, product_zero_right, right_zero}
use Rattle.residue_words.proofs.Vectors.{at_mix, at_zeros, combination_mix, length_list_of, list_equal, mix, row_combination}
use Rattle.row_space.specs.Rows.{DiffersBy}
use Rattle.row_space.proofs.Rows.{differs_by_none}
use Rattle.sparse_rows.specs.Rows.{ResidueMatrix, ResidueRow, nonzeros, support}
use Rattle.sparse_rows.specs.Stored.{IsSparse, entry_at, spread, with_row}
use Rattle.sparse_rows.proofs.Loops.{length_zeros, row_before, row_last, zero_at}
use Rattle.sparse_rows.proofs.Spread.{at_spread, entry_here, entry_support, length_spread, spread_none, support_sparse}
use Rattle.triangular_solve.specs.FlatRows.{AreFlat, IsFlatTail, IsFlattened, TakesIn}
use Rattle.triangular_solve.specs.PivotRows.{ArePlaced, PlacedRows}
use Rattle.lead_rows.specs.Accumulator.{IsAlike}
use Rattle.triangular_solve.specs.declared.flat_rows.FlatRows.{FlatRows}
use Rattle.lead_rows.proofs.Draining.{set_vector}
use Rattle.triangular_solve.proofs.Eliminating.{back, behind_first, behind_other, behind_same, behind_sparse, first_place}
use Rattle.triangular_solve.proofs.SplitRows.{first_more, first_zero}

-- x and a is what is left with a less a multiple of f, and the part with this multiple
sum_more : (p x s u a x1 s1 f v : ℕ) → x ≡ (s + u) % p → x1 ≡ (x + a) % p → (s1 + v * f) % p ≡ (s + a) % p → x1 ≡ (s1 + (1 * u + v * f) % p) % p
sum_more p x s u a x1 s1 f v e is step =
    let turn : s + u + a ≡ (s + a) + u = omega arith in
    let back : (s1 + v * f) + u ≡ s1 + (1 * u + v * f) = omega arith in
    is ∙ add_same p x (s + u) a a (ap (λ t. t % p) e ∙ mod-mod (s + u) p) refl ∙ ap (λ t. t % p) turn
    ∙ add_same p (s + a) (s1 + v * f) u u (sym step) refl ∙ ap (λ t. t % p) back
    ∙ add_same p s1 s1 (1 * u + v * f) ((1 * u + v * f) % p) refl (sym (mod-mod (1 * u + v * f) p))

-- what comes at one column: a to x, and a less a multiple of f to what is left
abbrev pub Comes : ℕ → ℕ → ℕ → ℕ → ℕ → ℕ → ℕ → Type 0
Comes p x s x1 s1 v f = (a : ℕ) × (x1 ≡ (x + a) % p) × ((s1 + v * f) % p ≡ (s + a) % p)

differs_coming : (placed : PlacedRows) {x s x1 s1 : List ℕ} (f : List ℕ) (v : ℕ) → 2 ≤ placed.rows.modulus → DiffersBy placed.rows.modulus placed.rows.matrix x s → IsCombination placed.rows.modulus placed.rows.matrix f →
    ((j : ℕ) → j < placed.rows.matrix.width → Comes placed.rows.modulus (slice_index x j) (slice_index s j) (slice_index x1 j) (slice_index s1 j) v (slice_index f j)) → DiffersBy placed.rows.modulus placed.rows.matrix x1 s1
differs_coming placed {x} {s} {x1} {s1} f v two d within step = record {
  part = mix placed.rows.modulus placed.rows.matrix.width 1 v d.part f;
  combination = combination_mix placed.rows.modulus 1 v placed.rows.matrix d.part f (omega arith) d.combination within;
  sum = λ j l. let t = step j l in
      sum_more placed.rows.modulus (slice_index x j) (slice_index s j) (slice_index d.part j) t.0 (slice_index x1 j) (slice_index s1 j) (slice_index f j) v (d.sum j l) t.1 t.2
      ∙ ap (λ t. (slice_index s1 j + t) % placed.rows.modulus) (sym (at_mix placed.rows.modulus placed.rows.matrix.width 1 v d.part f j l));
}

module _ (placed : PlacedRows) (flat : FlatRows) {x : List ℕ} {old new : ResidueRow} (two : 2 ≤ placed.rows.modulus) (wide : placed.rows.matrix.width ≡ length placed.columns) (F : AreFlat placed flat)
    (i : IsFlattened placed x old.row) (e : old.modulus ≡ placed.rows.modulus) (vector : IsVector placed.rows.modulus (length placed.columns) x) (place v : ℕ) (inside : place < length placed.columns) (small : v < placed.rows.modulus)
    (t : TakesIn flat place v old new) where
  abbrev pub coming : List ℕ
  coming = slice_set x place ((slice_index x place + v) % placed.rows.modulus)

  here : slice_index coming place ≡ (slice_index x place + v) % placed.rows.modulus
  here = get_or-set_same x place _ 0 (omega (arith, vector.len))

  there : (j : ℕ) → j < length placed.columns → j ≢ place → slice_index coming j ≡ (slice_index x j + 0) % placed.rows.modulus
  there j l d =
      let plain : slice_index x j + 0 ≡ slice_index x j = omega arith in
      get_or-set_other x place j _ 0 d ∙ sym (ap (λ y. y % placed.rows.modulus) plain ∙ mod-eq_of_lt (vector.residues j l))

  module _ (high : flat.count ≤ place) where
    added : new.row ≡ slice_set old.row place ((slice_index old.row place + v) % placed.rows.modulus)
    added = (t.other high).row ∙ ap (λ m. slice_set old.row place ((slice_index old.row place + v) % m)) e

    came : (f : List ℕ) (j : ℕ) → j < placed.rows.matrix.width → Comes placed.rows.modulus (slice_index x j) (slice_index old.row j) (slice_index coming j) (slice_index new.row j) 0 (slice_index f j)
    came f j l = elim (cases_eq j place) [
      | inl s ↦ subst (λ k. Comes placed.rows.modulus (slice_index x k) (slice_index old.row k) (slice_index coming k) (slice_index new.row k) 0 (slice_index f k)) (sym s) (
        v,
        here,
        (
            let now : slice_index new.row place ≡ (slice_index old.row place + v) % placed.rows.modulus = ap (λ r. slice_index r place) added ∙ get_or-set_same old.row place _ 0 (omega (arith, i.residues.len)) in
            let plain : slice_index new.row place + 0 * slice_index f place ≡ slice_index new.row place = omega arith in
            ap (λ y. y % placed.rows.modulus) plain ∙ ap (λ y. y % placed.rows.modulus) now ∙ mod-mod (slice_index old.row place + v) placed.rows.modulus
            ),
      )
      | inr d ↦ (
        0,
        there j (omega arith) d,
        (
            let now : slice_index new.row j ≡ slice_index old.row j = ap (λ r. slice_index r j) added ∙ get_or-set_other old.row place j _ 0 d in
            let plain : slice_index new.row j + 0 * slice_index f j ≡ slice_index old.row j + 0 = omega (arith, now) in
            ap (λ y. y % placed.rows.modulus) plain
            ),
      )
    ]

    pub flattened_other : IsFlattened placed coming new.row
    flattened_other = record {
      residues = subst (IsVector placed.rows.modulus (length placed.columns)) (sym added) (set_vector i.residues place _ (mod-lt _ (omega arith)));
      zero = λ k l. ap (λ r. slice_index r k) added ∙ get_or-set_other old.row place k _ 0 (λ s. absurd (omega (arith, F.count))) ∙ i.zero k l;
      differs = λ prime. let d = i.differs prime in differs_coming placed d.part 0 two d d.combination (came d.part);
    }

  module _ (low : place < flat.count) (made : flat.count ≤ flat.tails.matrix.height + place) where
    in_tails : flat.count - (place + 1) < flat.tails.matrix.height
    in_tails = omega arith

    abbrev f : List ℕ
    f = slice_set (row flat.tails.matrix (flat.count - (place + 1))) place 1

    within : IsPrime placed.rows.modulus → IsCombination placed.rows.modulus placed.rows.matrix f
    within prime =
        let at : flat.count - ((flat.count - (place + 1)) + 1) ≡ place = omega arith in
        subst (λ k. IsCombination placed.rows.modulus placed.rows.matrix (slice_set (row flat.tails.matrix (flat.count - (place + 1))) k 1)) at (F.within prime (flat.count - (place + 1)) in_tails)

    now : (j : ℕ) → j < length placed.columns → slice_index new.row j ≡ (slice_index old.row j + (placed.rows.modulus - v) % placed.rows.modulus * entry flat.tails.matrix (flat.count - (place + 1)) j) % placed.rows.modulus
    now j l = (t.pivotal low).sums j (omega (arith, i.residues.len))
        ∙ ap (λ m. (slice_index old.row j + (m - v) % m * entry flat.tails.matrix (flat.count - (place + 1)) j) % m) e

    zero_now : (k : ℕ) → k < placed.rows.matrix.height → k < length placed.columns → slice_index new.row k ≡ 0
    zero_now k l lk =
        let none : entry flat.tails.matrix (flat.count - (place + 1)) k ≡ 0 = F.alone (flat.count - (place + 1)) k in_tails (omega (arith, F.count)) in
        let plain : slice_index old.row k + (placed.rows.modulus - v) % placed.rows.modulus * 0 ≡ 0 = omega (arith, i.zero k l) in
        now k lk ∙ ap (λ y. (slice_index old.row k + (placed.rows.modulus - v) % placed.rows.modulus * y) % placed.rows.modulus) none ∙ ap (λ y. y % placed.rows.modulus) plain ∙ mod-eq_of_lt (omega arith)

    came_low : (tall : length (row flat.tails.matrix (flat.count - (place + 1))) ≡ length placed.columns) (j : ℕ) → j < placed.rows.matrix.width →
        Comes placed.rows.modulus (slice_index x j) (slice_index old.row j) (slice_index coming j) (slice_index new.row j) v (slice_index f j)
    came_low tall j l = elim (cases_eq j place) [
      | inl s ↦ subst (λ k. Comes placed.rows.modulus (slice_index x k) (slice_index old.row k) (slice_index coming k) (slice_index new.row k) v (slice_index (slice_set (row flat.tails.matrix (flat.count - (place + 1))) place 1) k)) (sym s) (
        v,
        here,
        (
            let one : slice_index (slice_set (row flat.tails.matrix (flat.count - (place + 1))) place 1) place ≡ 1 = get_or-set_same (row flat.tails.matrix (flat.count - (place + 1))) place 1 0 (omega arith) in
            let was : slice_index old.row place ≡ 0 = i.zero place (omega (arith, F.count)) in
            let is : slice_index new.row place ≡ 0 = zero_now place (omega (arith, F.count)) inside in
            let plain : slice_index new.row place + v * 1 ≡ slice_index old.row place + v = omega (arith, was, is) in
            ap (λ y. (slice_index new.row place + v * y) % placed.rows.modulus) one ∙ ap (λ y. y % placed.rows.modulus) plain
            ),
      )
      | inr d ↦ (
        0,
        there j (omega arith) d,
        (
            let same : slice_index (slice_set (row flat.tails.matrix (flat.count - (place + 1))) place 1) j ≡ entry flat.tails.matrix (flat.count - (place + 1)) j = get_or-set_other (row flat.tails.matrix (flat.count - (place + 1))) place j 1 0 d in
            let plain : slice_index old.row j ≡ slice_index old.row j + 0 = omega arith in
            ap₂ (λ y z. (y + v * z) % placed.rows.modulus) (now j (omega arith)) same
            ∙ back placed.rows.modulus (slice_index old.row j) (entry flat.tails.matrix (flat.count - (place + 1)) j) v ((placed.rows.modulus - v) % placed.rows.modulus) small refl
            ∙ ap (λ y. y % placed.rows.modulus) plain
            ),
      )
    ]

    pub flattened_pivot : (tall : length (row flat.tails.matrix (flat.count - (place + 1))) ≡ length placed.columns) (short : placed.rows.matrix.height ≤ length placed.columns) → IsFlattened placed coming new.row
    flattened_pivot tall short = record {
      residues = subst (λ m. IsVector m (length placed.columns) new.row) e (subst (λ n. IsVector old.modulus n new.row) i.residues.len (t.pivotal low).vector);
      zero = λ k l. zero_now k l (omega arith);
      differs = λ prime. differs_coming placed f v two (i.differs prime) (within prime) (came_low tall);
    }

-- nothing came
pub flattened_none : (placed : PlacedRows) (s : List ℕ) → 2 ≤ placed.rows.modulus → placed.rows.matrix.width ≡ length placed.columns → s ≡ zeros (length placed.columns) → placed.rows.matrix.height ≤ length placed.columns → IsFlattened placed s s
flattened_none placed s two wide e short = record {
  residues = vector;
  zero = λ k l. zero_at s _ e k (omega (arith, long));
  differs = λ prime. differs_by_none placed.rows.modulus placed.rows.matrix s two (subst (λ n. IsVector placed.rows.modulus n s) (sym wide) vector);
}
  where
    long : length s ≡ length placed.columns
    long = ap length e ∙ length_zeros (length placed.columns)

    vector : IsVector placed.rows.modulus (length placed.columns) s
    vector = record { len = long; residues = λ j l. let z : slice_index s j ≡ 0 = zero_at s _ e j (omega (arith, long)) in omega arith }

-- a value more
pub flattened_more : (placed : PlacedRows) (flat : FlatRows) {x next : List ℕ} {old new : ResidueRow} → 2 ≤ placed.rows.modulus → placed.rows.matrix.width ≡ length placed.columns → placed.rows.matrix.height ≤ length placed.columns →
    AreFlat placed flat → IsMatrix flat.tails.modulus flat.tails.matrix → IsFlattened placed x old.row → old.modulus ≡ placed.rows.modulus → IsVector placed.rows.modulus (length placed.columns) x →
    (place v : ℕ) → place < length placed.columns → v < placed.rows.modulus → flat.count ≤ flat.tails.matrix.height + place → TakesIn flat place v old new →
    next ≡ slice_set x place ((slice_index x place + v) % placed.rows.modulus) → IsFlattened placed next new.row
flattened_more placed flat {x} {next} {old} {new} two wide short F m i e vector place v inside small made t is = subst (λ y. IsFlattened placed y new.row) (sym is) (elim (cases_lt place flat.count) [
  | inl low ↦
      let tall : length (row flat.tails.matrix (flat.count - (place + 1))) ≡ length placed.columns = (m.each (flat.count - (place + 1)) (omega arith)).len ∙ F.width in
      flattened_pivot placed flat two wide F i e vector place v inside small t low made tall short
  | inr high ↦ flattened_other placed flat two wide F i e vector place v inside small t high
])

-- modulus and length stay
pub takes_alike : {flat : FlatRows} {place v : ℕ} {old new : ResidueRow} → TakesIn flat place v old new → IsAlike old new
takes_alike {flat} {place} {v} {old} {new} t = elim (cases_lt place flat.count) [
  | inl low ↦ ((t.pivotal low).modulus, (t.pivotal low).vector.len)
  | inr high ↦ ((t.other high).modulus, ap length (t.other high).row ∙ length-set old.row place _)
]

-- the inverse times the row of these columns and values, of which the first k have come
pub record IsScaling (p n by : ℕ) (cs vs : List ℕ) (k : ℕ) (x : List ℕ) : Type 0 where
  pub vector : IsVector p n x
  pub at : (j : ℕ) → j < n → slice_index x j ≡ (by * slice_index (spread n (take k cs) (take k vs)) j) % p

pub scaling_none : (p n by : ℕ) (cs vs x : List ℕ) → 0 < p → x ≡ zeros n → IsScaling p n by cs vs 0 x
scaling_none p n by cs vs x pos e = record {
  vector = record { len = long; residues = λ j l. let z : slice_index x j ≡ 0 = zero_at x _ e j (omega (arith, long)) in omega arith };
  at = λ j l.
      let none : slice_index (spread n [] []) j ≡ 0 = ap (λ v. slice_index v j) (spread_none n []) ∙ at_zeros n j l in
      let plain : by * 0 ≡ 0 = omega arith in
      zero_at x _ e j (omega (arith, long)) ∙ sym (ap (λ y. (by * y) % p) none ∙ ap (λ y. y % p) plain ∙ mod-eq_of_lt pos);
}
  where
    long : length x ≡ n
    long = ap length e ∙ length_zeros n

pub scaling_more : {p n by k : ℕ} {cs vs x : List ℕ} → 0 < p → IsSparse p n cs vs → IsScaling p n by cs vs k x → k < length cs → (v : ℕ) → v ≡ (by * slice_index vs k) % p →
    IsScaling p n by cs vs (k + 1) (slice_set x (slice_index cs k) ((slice_index x (slice_index cs k) + v) % p))
scaling_more {p} {n} {by} {k} {cs} {vs} {x} pos s d l v e = record {
  vector = set_vector d.vector c _ (mod-lt _ pos);
  at = λ j lj. elim (cases_eq j c) [
    | inl same ↦ subst (λ i. slice_index (slice_set x c ((slice_index x c + v) % p)) i ≡ (by * slice_index (spread n (take (k + 1) cs) (take (k + 1) vs)) i) % p) (sym same) (
        get_or-set_same x c _ 0 (omega (arith, d.vector.len, s.below k l)) ∙ sum
        ∙ sym (ap (λ w. (by * slice_index w c) % p) (first_more s k l) ∙ ap (λ y. (by * y) % p) (get_or-set_same (spread n (take k cs) (take k vs)) c (slice_index vs k) 0 (omega (arith, s.below k l, length_spread n (take k cs) (take k vs)))))
        )
    | inr d2 ↦ get_or-set_other x c j _ 0 d2 ∙ d.at j lj ∙ sym (ap (λ w. (by * slice_index w j) % p) (first_more s k l) ∙ ap (λ y. (by * y) % p) (get_or-set_other (spread n (take k cs) (take k vs)) c j (slice_index vs k) 0 d2))
  ];
}
  where
    c : ℕ
    c = slice_index cs k

    was : slice_index x (slice_index cs k) ≡ 0
    was =
        let plain : by * 0 ≡ 0 = omega arith in
        d.at (slice_index cs k) (s.below k l) ∙ ap (λ y. (by * y) % p) (first_zero s k l (slice_index cs k) (omega arith) (s.below k l)) ∙ ap (λ y. y % p) plain ∙ mod-eq_of_lt pos

    sum : (slice_index x (slice_index cs k) + v) % p ≡ (by * slice_index vs k) % p
    sum = let plain : slice_index x (slice_index cs k) + v ≡ v = omega (arith, was) in ap (λ y. y % p) plain ∙ ap (λ y. y % p) e ∙ mod-mod (by * slice_index vs k) p

-- what is left of the row behind a pivot, times its inverse, is the pivot's flat row but for its 1
module _ (placed : PlacedRows) (place by : ℕ) {cs vs : List ℕ} (two : 2 ≤ placed.rows.modulus) (m : IsMatrix placed.rows.modulus placed.rows.matrix) (P : ArePlaced placed) (inside : place < placed.rows.matrix.height)
    (is_cols : cs ≡ support (row placed.rows.matrix place)) (is_vals : vs ≡ nonzeros (row placed.rows.matrix place)) where
  at_row : IsVector placed.rows.modulus placed.rows.matrix.width (row placed.rows.matrix place)
  at_row = m.each place inside

  head : (0 < length (support (row placed.rows.matrix place))) × (slice_index (support (row placed.rows.matrix place)) 0 ≡ place)
  head = first_place at_row place (P.upper.diagonal place inside) (λ i l. P.upper.upper place i inside l)

  pub behind_some : (1 ≤ length cs) × (1 ≤ length vs)
  behind_some = let s = support_sparse at_row in (omega (arith, ap length is_cols, head.0), omega (arith, ap length is_vals, head.0, s.long))

  stored_row : IsSparse placed.rows.modulus placed.rows.matrix.width cs vs
  stored_row = subst (λ us. IsSparse placed.rows.modulus placed.rows.matrix.width us vs) (sym is_cols) (subst (IsSparse placed.rows.modulus placed.rows.matrix.width (support (row placed.rows.matrix place))) (sym is_vals) (support_sparse at_row))

  pub behind_stored : IsSparse placed.rows.modulus (length placed.columns) (behind_first cs) (behind_first vs)
  behind_stored = subst (λ n. IsSparse placed.rows.modulus n (behind_first cs) (behind_first vs)) P.width (behind_sparse cs vs stored_row)

  behind_at : entry_at (behind_first cs) (behind_first vs) place ≡ 0
  behind_at = ap (entry_at (behind_first cs) (behind_first vs)) (sym (ap (λ us. slice_index us 0) is_cols ∙ head.1)) ∙ behind_same cs vs stored_row (omega (arith, behind_some.0))

  behind_else : (i : ℕ) → i ≢ place → entry_at (behind_first cs) (behind_first vs) i ≡ entry placed.rows.matrix place i
  behind_else i d =
      behind_other cs vs i stored_row (omega (arith, behind_some.0)) (λ e. d (sym e ∙ ap (λ us. slice_index us 0) is_cols ∙ head.1)) ∙ ap₂ (λ us ws. entry_at us ws i) is_cols is_vals ∙ entry_support (row placed.rows.matrix place) i

  -- behind a pivot there are those of the flat rows that are made
  pub behind_places : (k : ℕ) → k < length (behind_first cs) → place < slice_index (behind_first cs) k
  behind_places k l =
      elim (cases_lt place (slice_index (behind_first cs) k)) [
        | inl b ↦ b
        | inr ge ↦
            let c : ℕ = slice_index (behind_first cs) k in
            let positive : 0 < slice_index (behind_first vs) k = behind_stored.positive k (omega (arith, behind_stored.long)) in
            let here : entry_at (behind_first cs) (behind_first vs) (slice_index (behind_first cs) k) ≡ slice_index (behind_first vs) k = entry_here (behind_first cs) (behind_first vs) behind_stored.long behind_stored.rising k l in
            elim (cases_eq (slice_index (behind_first cs) k) place) [
              | inl e ↦ absurd (omega (arith, positive, here, ap (entry_at (behind_first cs) (behind_first vs)) e, behind_at))
              | inr d ↦ absurd (omega (arith, positive, here, behind_else (slice_index (behind_first cs) k) d, P.upper.upper place (slice_index (behind_first cs) k) inside (omega arith)))
            ]
      ]

  pub flat_tail : {x s : List ℕ} (k : ℕ) → length (behind_first cs) ≤ k → IsScaling placed.rows.modulus (length placed.columns) by (behind_first cs) (behind_first vs) k x → IsFlattened placed x s →
      (IsPrime placed.rows.modulus → (entry placed.rows.matrix place place * by) % placed.rows.modulus ≡ 1) → IsFlatTail placed place s
  flat_tail {x} {s} k all d i inverse = record {
    vector = i.residues;
    zero = i.zero;
    within = λ prime.
        let f = i.differs prime in
        let q : ℕ = placed.rows.modulus - 1 in
        let next : placed.rows.modulus ≡ suc q = omega arith in
        let x_at : (j : ℕ) → j < length placed.columns → slice_index x j ≡ (by * entry_at (behind_first cs) (behind_first vs) j) % placed.rows.modulus = λ j l.
        d.at j l
        ∙ ap (λ w. (by * slice_index w j) % placed.rows.modulus) (ap₂ (spread (length placed.columns)) (take_all k (behind_first cs) all) (take_all k (behind_first vs) (omega (arith, behind_stored.long))))
        ∙ ap (λ y. (by * y) % placed.rows.modulus) (at_spread (length placed.columns) (behind_first cs) (behind_first vs) j l) in
        let lp : place < length placed.columns = omega (arith, inside, P.upper.short, P.width) in
        subst (IsCombination placed.rows.modulus placed.rows.matrix)
        (list_equal placed.rows.matrix.width (mix placed.rows.modulus placed.rows.matrix.width by q (row placed.rows.matrix place) f.part) (slice_set s place 1) (length_list_of placed.rows.matrix.width _) (length-set s place 1 ∙ i.residues.len ∙ sym P.width) (λ j l.
        let lj : j < length placed.columns = omega (arith, P.width) in
        at_mix placed.rows.modulus placed.rows.matrix.width by q (row placed.rows.matrix place) f.part j l
        ∙ elim (cases_eq j place) [
          | inl e ↦ subst (λ t. (by * entry placed.rows.matrix place t + q * slice_index f.part t) % placed.rows.modulus ≡ slice_index (slice_set s place 1) t) (sym e)
              (at_pivot placed.rows.modulus by q (entry placed.rows.matrix place place) (slice_index f.part place) two (inverse prime)
              (let zero_x : slice_index x place ≡ 0 = (let none : by * 0 ≡ 0 = omega arith in x_at place lp ∙ ap (λ y. (by * y) % placed.rows.modulus) behind_at ∙ ap (λ y. y % placed.rows.modulus) none ∙ mod-eq_of_lt (omega arith)) in
              let plain : slice_index s place + slice_index f.part place ≡ slice_index f.part place = omega (arith, i.zero place inside) in
              ap (λ y. y % placed.rows.modulus) (sym plain) ∙ sym (f.sum place (omega (arith, P.width))) ∙ zero_x)
              ∙ sym (get_or-set_same s place 1 0 (omega (arith, i.residues.len))))
          | inr d2 ↦
              at_other placed.rows.modulus by q (entry placed.rows.matrix place j) (slice_index s j) (slice_index f.part j) next
              (ap (λ y. (by * y) % placed.rows.modulus) (sym (behind_else j d2)) ∙ sym (x_at j lj) ∙ f.sum j l)
              ∙ mod-eq_of_lt (i.residues.residues j lj) ∙ sym (get_or-set_other s place j 1 0 d2)
        ]))
        (combination_mix placed.rows.modulus by q placed.rows.matrix (row placed.rows.matrix place) f.part (omega arith) (row_combination placed.rows.modulus placed.rows.matrix place two m inside) f.combination);
  }
    where
      at_pivot : (p b q r u : ℕ) → 2 ≤ p → (r * b) % p ≡ 1 → u % p ≡ 0 → (b * r + q * u) % p ≡ 1
      at_pivot p b q r u two one none =
          let turn : b * r ≡ r * b = omega arith in
          right_zero p (b * r) (q * u) (product_zero_right p q u none) ∙ ap (λ y. y % p) turn ∙ one

      at_other : (p b q r s u : ℕ) → p ≡ suc q → (b * r) % p ≡ (s + u) % p → (b * r + q * u) % p ≡ s % p
      at_other p b q r s u e same =
          let turn : s + u + q * u ≡ s + (q * u + u) = omega arith in
          add_same p (b * r) (s + u) (q * u) (q * u) same refl ∙ ap (λ y. y % p) turn ∙ right_zero p s (q * u + u) (minus_one p q u e)

-- the first k entries behind a pivot, times its inverse, were taken in
pub record IsFlattening (placed : PlacedRows) (by : ℕ) (cs vs : List ℕ) (k : ℕ) (s : List ℕ) : Type 0 where
  pub came : List ℕ
  pub scaling : IsScaling placed.rows.modulus (length placed.columns) by cs vs k came
  pub flattened : IsFlattened placed came s

pub flattening_none : {placed : PlacedRows} {by : ℕ} {cs vs s : List ℕ} → 2 ≤ placed.rows.modulus → ArePlaced placed → s ≡ zeros (length placed.columns) → IsFlattening placed by cs vs 0 s
flattening_none {placed} {by} {cs} {vs} {s} two P e = record {
  came = s;
  scaling = scaling_none placed.rows.modulus (length placed.columns) by cs vs s (omega arith) e;
  flattened = flattened_none placed s two P.width e (omega (arith, P.upper.short, P.width));
}

pub flattening_more : {placed : PlacedRows} {flat : FlatRows} {by k v : ℕ} {cs vs : List ℕ} {old new : ResidueRow} → 2 ≤ placed.rows.modulus → ArePlaced placed → AreFlat placed flat → IsMatrix flat.tails.modulus flat.tails.matrix →
    IsSparse placed.rows.modulus (length placed.columns) cs vs → IsFlattening placed by cs vs k old.row → k < length cs → old.modulus ≡ placed.rows.modulus → flat.count ≤ flat.tails.matrix.height + slice_index cs k →
    v ≡ (by * slice_index vs k) % placed.rows.modulus → TakesIn flat (slice_index cs k) v old new → IsFlattening placed by cs vs (k + 1) new.row
flattening_more {placed} {flat} {by} {k} {v} {cs} {vs} {old} {new} two P F m s d l e made is t = record {
  came = slice_set d.came (slice_index cs k) ((slice_index d.came (slice_index cs k) + v) % placed.rows.modulus);
  scaling = scaling_more (omega arith) s d.scaling l v is;
  flattened = flattened_more placed flat two P.width (omega (arith, P.upper.short, P.width)) F m d.flattened e d.scaling.vector (slice_index cs k) v (s.below k l) (let low : (by * slice_index vs k) % placed.rows.modulus < placed.rows.modulus = mod-lt _ (omega arith) in omega arith) made t refl;
}

-- these columns and values are the row of the pivot at a place
pub record IsPivotAt (placed : PlacedRows) (place : ℕ) (cs vs : List ℕ) : Type 0 where
  pub two_or_more : 2 ≤ placed.rows.modulus
  pub matrix : IsMatrix placed.rows.modulus placed.rows.matrix
  pub placed_rows : ArePlaced placed
  pub inside : place < placed.rows.matrix.height
  pub cols : cs ≡ support (row placed.rows.matrix place)
  pub vals : vs ≡ nonzeros (row placed.rows.matrix place)

pub pivot_at : {placed : PlacedRows} {R : ResidueMatrix} {place : ℕ} {cs vs : List ℕ} → R ≡ placed.rows → ArePlaced placed → place < placed.rows.matrix.height → 2 ≤ R.modulus → IsMatrix R.modulus R.matrix → cs ≡ support (row R.matrix place) → vs ≡ nonzeros (row R.matrix place) →
    IsPivotAt placed place cs vs
pivot_at {placed} {R} {place} {cs} {vs} e P inside = subst (λ (r : ResidueMatrix). 2 ≤ r.modulus → IsMatrix r.modulus r.matrix → cs ≡ support (row r.matrix place) → vs ≡ nonzeros (row r.matrix place) → IsPivotAt placed place cs vs) (sym e)
    (λ two m a b. record { two_or_more = two; matrix = m; placed_rows = P; inside = inside; cols = a; vals = b })

pub pivot_some : {placed : PlacedRows} {place : ℕ} {cs vs : List ℕ} → IsPivotAt placed place cs vs → (1 ≤ length cs) × (1 ≤ length vs)
pivot_some {placed} {place} a = behind_some placed place 0 a.two_or_more a.matrix a.placed_rows a.inside a.cols a.vals

pub pivot_behind : {placed : PlacedRows} {place : ℕ} {cs vs : List ℕ} → IsPivotAt placed place cs vs → IsSparse placed.rows.modulus (length placed.columns) (behind_first cs) (behind_first vs)
pivot_behind {placed} {place} a = behind_stored placed place 0 a.two_or_more a.matrix a.placed_rows a.inside a.cols a.vals

pub pivot_before : {placed : PlacedRows} {place : ℕ} {cs vs : List ℕ} → IsPivotAt placed place cs vs → (k : ℕ) → k < length (behind_first cs) → place < slice_index (behind_first cs) k
pivot_before {placed} {place} a = behind_places placed place 0 a.two_or_more a.matrix a.placed_rows a.inside a.cols a.vals

pub flattened_tail : {placed : PlacedRows} {place by k : ℕ} {cs vs s : List ℕ} → IsPivotAt placed place cs vs → length (behind_first cs) ≤ k → IsFlattening placed by (behind_first cs) (behind_first vs) k s →
    (IsPrime placed.rows.modulus → (entry placed.rows.matrix place place * by) % placed.rows.modulus ≡ 1) → IsFlatTail placed place s
flattened_tail {placed} {place} {by} {k} a all d inverse = flat_tail placed place by a.two_or_more a.matrix a.placed_rows a.inside a.cols a.vals k all d.scaling d.flattened inverse

-- one flat row more
pub flat_more : {placed : PlacedRows} {flat : FlatRows} {tails : ResidueMatrix} {place : ℕ} {v : List ℕ} → AreFlat placed flat → IsMatrix flat.tails.modulus flat.tails.matrix → flat.tails.matrix.height + (place + 1) ≡ flat.count → IsFlatTail placed place v →
    tails.modulus ≡ flat.tails.modulus → tails.matrix ≡ with_row flat.tails.matrix v → AreFlat placed (record { count = flat.count; tails = tails })
flat_more {placed} {flat} {tails} {place} {v} F m next t e is = record {
  count = F.count;
  modulus = e ∙ F.modulus;
  width = ap (λ (M : Matrix). M.width) is ∙ F.width;
  low = omega (arith, high);
  alone = λ k i l li. elim (cases_eq k flat.tails.matrix.height) [
    | inl same ↦ ap (λ r. slice_index r i) (last k same) ∙ t.zero i (omega (arith, F.count))
    | inr d ↦ let less : k < flat.tails.matrix.height = omega (arith, high) in ap (λ r. slice_index r i) (before k less) ∙ F.alone k i less li
  ];
  within = λ prime k l. elim (cases_eq k flat.tails.matrix.height) [
    | inl same ↦
        let at : flat.count - (k + 1) ≡ place = omega arith in
        subst (λ r. IsCombination placed.rows.modulus placed.rows.matrix (slice_set r (flat.count - (k + 1)) 1)) (sym (last k same)) (subst (λ c. IsCombination placed.rows.modulus placed.rows.matrix (slice_set v c 1)) (sym at) (t.within prime))
    | inr d ↦
        let less : k < flat.tails.matrix.height = omega (arith, high) in
        subst (λ r. IsCombination placed.rows.modulus placed.rows.matrix (slice_set r (flat.count - (k + 1)) 1)) (sym (before k less)) (F.within prime k less)
  ];
}
  where
    high : tails.matrix.height ≡ flat.tails.matrix.height + 1
    high = ap (λ (M : Matrix). M.height) is

    before : (k : ℕ) → k < flat.tails.matrix.height → row tails.matrix k ≡ row flat.tails.matrix k
    before k l = ap (λ (M : Matrix). row M k) is ∙ row_before v m k l

    last : (k : ℕ) → k ≡ flat.tails.matrix.height → row tails.matrix k ≡ v
    last k same = ap₂ row is same ∙ row_last v m

-- no flat row
pub flat_none : {placed : PlacedRows} {count : ℕ} {tails : ResidueMatrix} → count ≡ placed.rows.matrix.height → tails.modulus ≡ placed.rows.modulus → tails.matrix.width ≡ length placed.columns → tails.matrix.height ≡ 0 → AreFlat placed (record { count = count; tails = tails })
flat_none {placed} {count} {tails} c m w none = record {
  count = c;
  modulus = m;
  width = w;
  low = omega arith;
  alone = λ t i l li. absurd (omega arith);
  within = λ prime t l. absurd (omega arith);
}
