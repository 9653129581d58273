-- A row that is joined from sums by places and from entries that have passed.
use Rattle.std.proofs.Common.{ℕ, ◌≡◌, ◌≢◌, ◌+◌, ◌<◌, ◌≤◌, List, length, slice_index, slice_set, inl, inr, sym, refl, ap, subst, ◌∙◌, arith}
use Rattle.std.specs.List.{Contains}
use Rattle.std.proofs.lemmas.Bool.{cases_eq, cases_lt}
use Rattle.std.proofs.lemmas.List.{length-set, get_or-set_same, get_or-set_other}
use Rattle.residue_words.specs.Matrix.{IsVector}
use Rattle.residue_words.proofs.Lists.{contains_at}
use Rattle.sparse_rows.specs.ColumnSet.{AllZero, TakesFirst}
use Rattle.sparse_rows.specs.Rows.{AreBelow, AreRising, nonzeros, support}
use Rattle.sparse_rows.proofs.Spread.{entry_cover, entry_here, entry_support, support_sparse}
use Rattle.triangular_solve.specs.PivotRows.{AppendsBefore, AscendWhereNonzero, IsSplitRow, place_range}
use Rattle.lead_rows.specs.Scattered.{HaveDistinctColumns}
use Rattle.triangular_solve.proofs.SplitRows.{distinct_same}

-- the entry in the support's place t is not 0
pub support_nonzero : {p n : ℕ} {w : List ℕ} → IsVector p n w → (t : ℕ) → t < length (support w) → slice_index w (slice_index (support w) t) ≢ 0
support_nonzero {p} {n} {w} vector t l z =
    let s = support_sparse vector in
    let e = entry_here (support w) (nonzeros w) s.long s.rising t l in
    let f = entry_support w (slice_index (support w) t) in
    absurd (omega (arith, e, f, z, s.positive t (omega (arith, s.long))))

-- an entry that is not 0 has a place in the support
pub support_place : (w : List ℕ) (j : ℕ) → slice_index w j ≢ 0 → (t : ℕ) × (t < length (support w)) × (slice_index (support w) t ≡ j)
support_place w j ne = elim (entry_cover (support w) (nonzeros w) j) [ inl z ↦ absurd (ne (sym (entry_support w j) ∙ z)) | inr f ↦ f ]

-- the value in the support's place t is the entry
pub support_value : (w : List ℕ) → AreRising (support w) → length (support w) ≡ length (nonzeros w) → (t : ℕ) → t < length (support w) → slice_index (nonzeros w) t ≡ slice_index w (slice_index (support w) t)
support_value w rising long t l = sym (entry_here (support w) (nonzeros w) long rising t l) ∙ entry_support w (slice_index (support w) t)

-- the entries from place `from` up to `to` came
pub record IsAppending (w : List ℕ) (from end : ℕ) (old new : List ℕ) (to : ℕ) : Type 0 where
  pub long : length new ≡ length old
  pub not_less : from ≤ to
  pub inside : to ≤ length (support w)
  pub before : (t : ℕ) → from ≤ t → t < to → slice_index (support w) t < end
  pub there : (t : ℕ) → from ≤ t → t < to → slice_index new (slice_index (support w) t) ≡ slice_index w (slice_index (support w) t)
  pub others : (j : ℕ) → ((t : ℕ) → from ≤ t → t < to → slice_index (support w) t ≢ j) → slice_index new j ≡ slice_index old j

pub appending_none : (w : List ℕ) (from end : ℕ) (old : List ℕ) → from ≤ length (support w) → IsAppending w from end old old from
appending_none w from end old l = record {
  long = refl;
  not_less = omega arith;
  inside = l;
  before = λ t a b. absurd (omega arith);
  there = λ t a b. absurd (omega arith);
  others = λ j none. refl;
}

-- it is 0 from the next column on
pub appending_behind : {w : List ℕ} {from end to : ℕ} {old new : List ℕ} → AreRising (support w) → IsAppending w from end old new to → to < length (support w) →
    ((t j : ℕ) → from ≤ t → t < length (support w) → slice_index (support w) t ≤ j → slice_index old j ≡ 0) → (j : ℕ) → slice_index (support w) to ≤ j → slice_index new j ≡ 0
appending_behind {w} {from} {end} {to} {old} {new} rising a l behind j le = a.others j (λ t f b e. absurd (omega (arith, rising t to b l))) ∙ behind to j a.not_less l le

pub appending_more : {w : List ℕ} {from end to : ℕ} {old new : List ℕ} → AreRising (support w) → AreBelow (length old) (support w) → IsAppending w from end old new to → to < length (support w) → slice_index (support w) to < end →
    (v : ℕ) → v ≡ slice_index w (slice_index (support w) to) → (next : List ℕ) → next ≡ slice_set new (slice_index (support w) to) v → IsAppending w from end old next (to + 1)
appending_more {w} {from} {end} {to} {old} {new} rising below a l less v is next e = record {
  long = ap length e ∙ length-set new c v ∙ a.long;
  not_less = omega (arith, a.not_less);
  inside = omega arith;
  before = λ t f b. elim (cases_eq t to) [ inl s ↦ omega (arith, ap (slice_index (support w)) s) | inr d ↦ a.before t f (omega arith) ];
  there = λ t f b. elim (cases_eq t to) [
    | inl s ↦ ap (λ t. slice_index next (slice_index (support w) t)) s ∙ ap (λ xs. slice_index xs c) e ∙ get_or-set_same new c v 0 (omega (arith, below to l, a.long)) ∙ is ∙ ap (λ t. slice_index w (slice_index (support w) t)) (sym s)
    | inr d ↦ ap (λ xs. slice_index xs (slice_index (support w) t)) e ∙ get_or-set_other new c (slice_index (support w) t) v 0 (λ z. absurd (omega (arith, rising t to (omega arith) l))) ∙ a.there t f (omega arith)
  ];
  others = λ j none. ap (λ xs. slice_index xs j) e ∙ get_or-set_other new c j v 0 (λ z. none to a.not_less (omega arith) (sym z)) ∙ a.others j (λ t f b. none t f (omega arith));
}
  where
    c : ℕ
    c = slice_index (support w) to

pub appending_all : {w : List ℕ} {from end to : ℕ} {old new : List ℕ} → AreRising (support w) → IsAppending w from end old new to → (to < length (support w) → end ≤ slice_index (support w) to) → AppendsBefore w (place_range from to) end old new
appending_all {w} {from} {end} {to} {old} {new} rising a stop = record {
  long = a.long;
  not_less = a.not_less;
  inside = a.inside;
  before = a.before;
  after = λ t f b. elim (cases_eq t to) [ inl s ↦ omega (arith, stop (omega arith), ap (slice_index (support w)) s) | inr d ↦ omega (arith, stop (omega arith), rising to t (omega arith) b) ];
  there = a.there;
  others = a.others;
}

-- what is joined of sums s0 and a row so far: all below a bound
pub record IsJoining (columns s0 outer s rest : List ℕ) (at : ℕ) : Type 0 where
  pub bound : ℕ
  pub low : bound ≤ length outer
  pub long : length rest ≡ length outer
  pub inside : (i : ℕ) → i < length columns → slice_index columns i < bound → slice_index rest (slice_index columns i) ≡ slice_index s0 i
  pub taken : (i : ℕ) → i < length columns → slice_index columns i < bound → slice_index s i ≡ 0
  pub left : (i : ℕ) → i < length columns → bound ≤ slice_index columns i → slice_index s i ≡ slice_index s0 i
  pub outside : (j : ℕ) → j < bound → ¬ Contains columns j → slice_index rest j ≡ slice_index outer j
  pub behind : (j : ℕ) → bound ≤ j → slice_index rest j ≡ 0
  pub place : at ≤ length (support outer)
  pub passed : (t : ℕ) → t < at → slice_index (support outer) t < bound
  pub coming : (t : ℕ) → at ≤ t → t < length (support outer) → bound ≤ slice_index (support outer) t

pub joining_none : (columns s0 outer rest : List ℕ) → length rest ≡ length outer → ((j : ℕ) → slice_index rest j ≡ 0) → IsJoining columns s0 outer s0 rest 0
joining_none columns s0 outer rest e zero = record {
  bound = 0;
  low = omega arith;
  long = e;
  inside = λ i l b. absurd (omega arith);
  taken = λ i l b. absurd (omega arith);
  left = λ i l b. refl;
  outside = λ j b n. absurd (omega arith);
  behind = λ j b. zero j;
  place = omega arith;
  passed = λ t b. absurd (omega arith);
  coming = λ t a b. omega arith;
}

module _ {p n : ℕ} {columns s0 outer : List ℕ} (vector : IsVector p n outer) (distinct : HaveDistinctColumns columns) (apart : (i : ℕ) → i < length columns → slice_index outer (slice_index columns i) ≡ 0) where
  -- the entries that passed came as far as column c, before which no sum is left
  pub joining_to : {s rest next : List ℕ} {at to : ℕ} (j : IsJoining columns s0 outer s rest at) (c : ℕ) → j.bound ≤ c → c ≤ length outer → ((i : ℕ) → i < length columns → slice_index columns i < c → slice_index s i ≡ 0) →
      AppendsBefore outer (place_range at to) c rest next → (made : IsJoining columns s0 outer s next to) × (made.bound ≡ c)
  joining_to {s} {rest} {next} {at} {to} j c le high none a = (
    record {
      bound = c;
      low = high;
      long = a.long ∙ j.long;
      inside = λ i l b. kept i l ∙ elim (cases_lt (slice_index columns i) j.bound) [
        | inl less ↦ j.inside i l less
        | inr ge ↦ j.behind (slice_index columns i) (omega arith) ∙ sym (none i l b) ∙ j.left i l (omega arith)
      ];
      taken = none;
      left = λ i l b. j.left i l (omega arith);
      outside = λ k b not. elim (cases_eq (slice_index outer k) 0) [
        | inl z ↦ a.others k (λ t f l e. support_nonzero vector t (omega (arith, a.inside)) (ap (slice_index outer) e ∙ z)) ∙ elim (cases_lt k j.bound) [
          | inl less ↦ j.outside k less not
          | inr ge ↦ j.behind k (omega arith) ∙ sym z
        ]
        | inr ne ↦
            let w = support_place outer k ne in
            elim (cases_lt k j.bound) [
              | inl less ↦ a.others k (λ t f l e. absurd (omega (arith, j.coming t f (omega (arith, a.inside))))) ∙ j.outside k less not
              | inr ge ↦
                  let from : at ≤ w.0 = elim (cases_lt w.0 at) [ inl l ↦ absurd (omega (arith, j.passed w.0 l, w.2)) | inr g ↦ omega arith ] in
                  let before : w.0 < to = elim (cases_lt w.0 to) [ inl l ↦ l | inr g ↦ absurd (omega (arith, a.after w.0 (omega arith) w.1, w.2)) ] in
                  ap (slice_index next) (sym w.2) ∙ a.there w.0 from before ∙ ap (slice_index outer) w.2
            ]
      ];
      behind = λ k b. a.others k (λ t f l e. absurd (omega (arith, a.before t f l))) ∙ j.behind k (omega arith);
      place = a.inside;
      passed = λ t l. elim (cases_lt t at) [ inl b ↦ omega (arith, j.passed t b) | inr g ↦ a.before t (omega arith) l ];
      coming = a.after;
    },
    refl,
  )
    where
      kept : (i : ℕ) → i < length columns → slice_index next (slice_index columns i) ≡ slice_index rest (slice_index columns i)
      kept i l = a.others (slice_index columns i) (λ t f b e. support_nonzero vector t (omega (arith, a.inside)) (ap (slice_index outer) e ∙ apart i l))

  -- the sum at column c, which is the bound, is put there
  pub joining_put : {s s1 rest : List ℕ} {at i v : ℕ} (j : IsJoining columns s0 outer s rest at) → length s ≡ length columns → TakesFirst s s1 i v → j.bound ≡ slice_index columns i → slice_index columns i < length rest →
      IsJoining columns s0 outer s1 (slice_set rest (slice_index columns i) v) at
  joining_put {s} {s1} {rest} {at} {i} {v} j long t e l = record {
    bound = c + 1;
    low = omega (arith, j.long);
    long = length-set rest c v ∙ j.long;
    inside = λ k lk b. elim (cases_eq k i) [
      | inl same ↦ ap (λ k. slice_index (slice_set rest c v) (slice_index columns k)) same ∙ get_or-set_same rest c v 0 l ∙ t.value ∙ j.left i li (omega arith) ∙ ap (slice_index s0) (sym same)
      | inr d ↦ get_or-set_other rest c (slice_index columns k) v 0 (far k lk d) ∙ j.inside k lk (omega (arith, far k lk d))
    ];
    taken = λ k lk b. ap (λ xs. slice_index xs k) t.after ∙ elim (cases_eq k i) [
      | inl same ↦ ap (slice_index (slice_set s i 0)) same ∙ get_or-set_same s i 0 0 t.inside
      | inr d ↦ get_or-set_other s i k 0 0 d ∙ j.taken k lk (omega (arith, far k lk d))
    ];
    left = λ k lk b. ap (λ xs. slice_index xs k) t.after ∙ get_or-set_other s i k 0 0 (λ same. absurd (omega (arith, ap (slice_index columns) same))) ∙ j.left k lk (omega arith);
    outside = λ k b not. elim (cases_eq k c) [
      | inl same ↦ absurd (not (contains_at columns i k li (sym same)))
      | inr d ↦ get_or-set_other rest c k v 0 d ∙ j.outside k (omega arith) not
    ];
    behind = λ k b. get_or-set_other rest c k v 0 (λ same. absurd (omega arith)) ∙ j.behind k (omega arith);
    place = j.place;
    passed = λ t b. omega (arith, j.passed t b);
    coming = λ t a b. elim (cases_eq (slice_index (support outer) t) c) [
      | inl same ↦ absurd (support_nonzero vector t b (ap (slice_index outer) same ∙ apart i li))
      | inr d ↦ omega (arith, j.coming t a b)
    ];
  }
    where
      c : ℕ
      c = slice_index columns i

      li : i < length columns
      li = omega (arith, t.inside)

      far : (k : ℕ) → k < length columns → k ≢ i → slice_index columns k ≢ c
      far k lk d z = d (distinct_same columns distinct k i lk li z)

  -- before the column of the first sum none is left
  pub none_before : {s s1 rest : List ℕ} {at i v : ℕ} (j : IsJoining columns s0 outer s rest at) → AscendWhereNonzero columns s0 → length s ≡ length columns → TakesFirst s s1 i v →
      (j.bound ≤ slice_index columns i) × ((k : ℕ) → k < length columns → slice_index columns k < slice_index columns i → slice_index s k ≡ 0)
  none_before {s} {s1} {rest} {at} {i} {v} j ascending long t = (
    from,
    (λ k lk b. elim (cases_eq (slice_index s k) 0) [
      | inl z ↦ z
      | inr ne ↦ elim (cases_lt k i) [
        | inl less ↦ t.before k less
        | inr ge ↦
            let other : k ≢ i = λ same. absurd (omega (arith, ap (slice_index columns) same)) in
            let later : j.bound ≤ slice_index columns k = elim (cases_lt (slice_index columns k) j.bound) [ inl l ↦ absurd (ne (j.taken k lk l)) | inr g ↦ omega arith ] in
            absurd (omega (arith, ascending i k (omega arith) lk (λ z. nonzero (j.left i li from ∙ z)) (λ z. ne (j.left k lk later ∙ z))))
      ]
    ]),
  )
    where
      li : i < length columns
      li = omega (arith, t.inside)

      nonzero : slice_index s i ≢ 0
      nonzero z = t.nonzero (t.value ∙ z)

      from : j.bound ≤ slice_index columns i
      from = elim (cases_lt (slice_index columns i) j.bound) [ inl l ↦ absurd (nonzero (j.taken i li l)) | inr g ↦ omega arith ]

  -- where no sum is left, and all entries passed
  pub joining_all : {s rest : List ℕ} {at : ℕ} (j : IsJoining columns s0 outer s rest at) → length s0 ≡ length columns → AreBelow (length outer) columns → j.bound ≡ length outer → IsSplitRow columns rest s0 outer
  joining_all {s} {rest} {at} j long below e = record {
    long = long;
    wide = sym j.long;
    inside = λ i l. sym (j.inside i l (omega (arith, below i l)));
    none = apart;
    outside = λ k l not. sym (j.outside k (omega (arith, j.long)) not);
  }

  -- what a step of joining does: behind the column nothing stands, and then its sum
  pub joining_behind : {s s1 rest next : List ℕ} {at to i v : ℕ} (j : IsJoining columns s0 outer s rest at) → AscendWhereNonzero columns s0 → length s ≡ length columns → TakesFirst s s1 i v → (c : ℕ) → c ≡ slice_index columns i →
      AppendsBefore outer (place_range at to) c rest next → (k : ℕ) → c ≤ k → slice_index next k ≡ 0
  joining_behind {s} {s1} {rest} {next} {at} {to} {i} {v} j ascending long t c e a k le =
      let b = none_before j ascending long t in
      a.others k (λ t f l z. absurd (omega (arith, a.before t f l))) ∙ j.behind k (omega (arith, b.0, e))

  pub joining_step : {s s1 rest next done : List ℕ} {at to i v : ℕ} (j : IsJoining columns s0 outer s rest at) → AscendWhereNonzero columns s0 → length s ≡ length columns → TakesFirst s s1 i v → (c : ℕ) → c ≡ slice_index columns i →
      AppendsBefore outer (place_range at to) c rest next → c < length next → done ≡ slice_set next c v → IsJoining columns s0 outer s1 done to
  joining_step {s} {s1} {rest} {next} {done} {at} {to} {i} {v} j ascending long t c e a l is =
      let b = none_before j ascending long t in
      let m = joining_to j c (omega (arith, b.0, e)) (omega (arith, a.long, j.long)) (λ k lk less. b.1 k lk (omega (arith, e))) a in
      subst (λ w. IsJoining columns s0 outer s1 w to) (sym (is ∙ ap (λ c. slice_set next c v) e)) (joining_put m.0 long t (m.1 ∙ e) (omega (arith, e)))

  pub joining_ends : {s rest next : List ℕ} {at to : ℕ} (j : IsJoining columns s0 outer s rest at) → length s0 ≡ length columns → length s ≡ length columns → AllZero s → AreBelow (length outer) columns →
      (c : ℕ) → c ≡ length outer → AppendsBefore outer (place_range at to) c rest next → IsSplitRow columns next s0 outer
  joining_ends {s} {rest} {next} {at} {to} j long same none below c e a =
      let m = joining_to j c (omega (arith, j.low, e)) (omega (arith, e)) (λ k lk less. none k (omega arith)) a in
      joining_all m.0 long below (m.1 ∙ e)
