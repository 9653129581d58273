-- Columns that get their places one after another.
use Rattle.std.proofs.Common.{ℕ, ◌≡◌, ◌≢◌, ◌+◌, ◌<◌, ◌≤◌, ◌⊎◌, ◌++◌, List, [], ◌∷◌, Option, Some, None, IfNone, IfSome, MatchOption, length, replicate, slice_index, slice_set, inl, inr, sym, refl, ap, subst, ◌∙◌, arith}
use Rattle.std.specs.List.{Contains}
use Rattle.std.proofs.lemmas.Bool.{cases_eq, cases_lt}
use Rattle.std.proofs.lemmas.List.{length-set, length-replicate, get_or-replicate, get_or-set_same, get_or-set_other, get_or_append_left, get_or_push, length_push}
use Rattle.residue_words.specs.declared.plain.Pair.{Pair}
use Rattle.residue_words.proofs.Lists.{contains_at, place_in}
use Rattle.row_space.specs.Factors.{col_at}
use Rattle.row_space.proofs.Counting.{pigeonhole}
use Rattle.sparse_rows.specs.Rows.{AreBelow, AreRising}
use Rattle.triangular_solve.specs.AscendingColumns.{IsPlaceOf}
use Rattle.triangular_solve.specs.PivotRows.{HasPivotsFirst, IsOrdering, IsOrderOf}

pub ordering_none : (sorted : List ℕ) → IsOrdering sorted (replicate (length sorted) 4294967295) []
ordering_none sorted = record {
  long = length-replicate (length sorted) 4294967295;
  placed = λ t l ne. absurd (ne (get_or-replicate (length sorted) t 4294967295 0 l));
  every = λ k l. absurd (omega arith);
}

-- where the column at a place stands among the sorted ones
stands : {sorted places columns : List ℕ} → IsOrdering sorted places columns → (k : ℕ) → (k < length columns) ⊎ (length columns ≤ k) → ℕ
stands o k (inl l) = (o.every k l).0
stands o k (inr _) = 0

stands_at : {sorted places columns : List ℕ} (o : IsOrdering sorted places columns) (k : ℕ) (d : (k < length columns) ⊎ (length columns ≤ k)) → k < length columns → (stands o k d < length sorted) × (slice_index places (stands o k d) ≡ k)
unfolding stands
stands_at o k (inl l) _ = let e = o.every k l in (e.2, e.1.1)
stands_at o k (inr ge) l = absurd (omega arith)

-- no more get places than there are
pub ordering_short : {sorted places columns : List ℕ} → IsOrdering sorted places columns → length columns ≤ length sorted
ordering_short {sorted} {places} {columns} o =
    pigeonhole (length columns) (length sorted) (λ k. stands o k (cases_lt k (length columns))) (λ k l. (stands_at o k (cases_lt k (length columns)) l).0)
    (λ k t lk lt e. sym (stands_at o k (cases_lt k (length columns)) lk).1 ∙ ap (slice_index places) e ∙ (stands_at o t (cases_lt t (length columns)) lt).1)

-- a column among the sorted ones
pub ordering_from : {sorted places columns : List ℕ} → length sorted ≤ 2147483648 → IsOrdering sorted places columns → (k : ℕ) → k < length columns →
    (t : ℕ) × (t < length sorted) × (slice_index places t ≡ k) × (slice_index sorted t ≡ slice_index columns k)
ordering_from {sorted} {places} {columns} few o k l =
    let e = o.every k l in
    let short = ordering_short o in
    let p = o.placed e.0 e.2 (λ z. absurd (omega (arith, e.1.1))) in
    (e.0, e.2, e.1.1, sym p.1 ∙ ap (slice_index columns) e.1.1)

rising_same : (xs : List ℕ) → AreRising xs → (k t : ℕ) → k < length xs → t < length xs → slice_index xs k ≡ slice_index xs t → k ≡ t
rising_same xs rising k t lk lt e = elim (cases_eq k t) [
  | inl s ↦ s
  | inr d ↦ elim (cases_lt k t) [ inl l ↦ absurd (omega (arith, rising k t l lt)) | inr g ↦ absurd (omega (arith, rising t k (omega arith) lk)) ]
]

pub ordering_distinct : {sorted places columns : List ℕ} → AreRising sorted → length sorted ≤ 2147483648 → IsOrdering sorted places columns → (k t : ℕ) → k < t → t < length columns →
    slice_index columns k ≢ slice_index columns t
ordering_distinct {sorted} {places} {columns} rising few o k t l lt same =
    let a = ordering_from few o k (omega arith) in
    let b = ordering_from few o t lt in
    let e : a.0 ≡ b.0 = rising_same sorted rising a.0 b.0 a.1 b.1 (a.3 ∙ same ∙ sym b.3) in
    absurd (omega (arith, a.2, b.2, ap (slice_index places) e))

-- one more gets the next place
pub ordering_more : {sorted places columns : List ℕ} → length sorted ≤ 2147483648 → IsOrdering sorted places columns → (t : ℕ) → t < length sorted → slice_index places t ≡ 4294967295 →
    IsOrdering sorted (slice_set places t (length columns)) (columns ++ slice_index sorted t ∷ [])
ordering_more {sorted} {places} {columns} few o t l none =
    let c = slice_index sorted t in
    let more : length (columns ++ c ∷ []) ≡ length columns + 1 = length_push columns c in
    let here : slice_index (slice_set places t (length columns)) t ≡ length columns = get_or-set_same places t (length columns) 0 (omega (arith, o.long)) in
    record {
      long = length-set places t (length columns) ∙ o.long;
      placed = λ s ls ne. elim (cases_eq s t) [
        | inl e ↦ (
            let v : slice_index (slice_set places t (length columns)) s ≡ length columns = ap (slice_index (slice_set places t (length columns))) e ∙ here in
            (omega arith, ap (slice_index (columns ++ c ∷ [])) v ∙ get_or_push columns c 0 (length columns) refl ∙ ap (slice_index sorted) (sym e))
            )
        | inr d ↦ (
            let v = get_or-set_other places t s (length columns) 0 d in
            let was = o.placed s ls (λ z. ne (v ∙ z)) in
            (omega (arith, v, was.0), ap (slice_index (columns ++ c ∷ [])) v ∙ get_or_append_left columns (c ∷ []) 0 (slice_index places s) was.0 ∙ was.1)
            )
      ];
      every = λ k lk. elim (cases_lt k (length columns)) [
        | inl less ↦ (
            let was = o.every k less in
            let short = ordering_short o in
            let apart : was.0 ≢ t = λ e. absurd (omega (arith, was.1.1, ap (slice_index places) e)) in
            (was.0, (omega (arith, length-set places t (length columns), was.1.0), get_or-set_other places t was.0 (length columns) 0 apart ∙ was.1.1), was.2)
            )
        | inr ge ↦ (
            let e : length columns ≡ k = omega arith in
            (t, (omega (arith, length-set places t (length columns), o.long), here ∙ e), l)
            )
      ];
    }

-- the first k pairs have the first k places
pub record IsPlacingPivots (qs : List Pair) (k : ℕ) (sorted places columns : List ℕ) : Type 0 where
  pub ordering : IsOrdering sorted places columns
  pub many : length columns ≡ k
  pub pivotal : (t : ℕ) → t < k → slice_index columns t ≡ col_at qs t

pub pivots_none : {qs : List Pair} {sorted places columns : List ℕ} → IsOrdering sorted places columns → columns ≡ [] → IsPlacingPivots qs 0 sorted places columns
pivots_none o e = record { ordering = o; many = ap length e; pivotal = λ t l. absurd (omega arith) }

-- the next one has no place yet
pub pivot_is_new : {qs : List Pair} {k : ℕ} {sorted places columns : List ℕ} → ((k t : ℕ) → k < t → t < length qs → col_at qs k ≢ col_at qs t) → IsPlacingPivots qs k sorted places columns →
    k < length qs → (t : ℕ) → t < length sorted → slice_index sorted t ≡ col_at qs k → slice_index places t ≡ 4294967295
pivot_is_new {qs} {k} {sorted} {places} {columns} distinct i l t lt e = elim (cases_eq (slice_index places t) 4294967295) [
  | inl z ↦ z
  | inr ne ↦
      let p = i.ordering.placed t lt ne in
      let low : slice_index places t < k = omega (arith, p.0, i.many) in
      absurd (distinct (slice_index places t) k low l (sym (i.pivotal (slice_index places t) low) ∙ p.1 ∙ e))
]

pub pivots_more : {qs : List Pair} {k : ℕ} {sorted places columns more now : List ℕ} (t : ℕ) → IsPlacingPivots qs k sorted places columns → slice_index sorted t ≡ col_at qs k →
    IsOrdering sorted more now → now ≡ columns ++ slice_index sorted t ∷ [] → IsPlacingPivots qs (k + 1) sorted more now
pivots_more {qs} {k} {sorted} {places} {columns} {more} {now} t i e o is = record {
  ordering = o;
  many = ap length is ∙ length_push columns (slice_index sorted t) ∙ ap (λ n. n + 1) i.many;
  pivotal = λ s ls. ap (λ xs. slice_index xs s) is ∙ elim (cases_lt s k) [
    | inl l ↦ get_or_append_left columns (slice_index sorted t ∷ []) 0 s (omega (arith, i.many)) ∙ i.pivotal s l
    | inr g ↦
        let last : length columns ≡ s = omega (arith, i.many) in
        let here : k ≡ s = omega arith in
        get_or_push columns (slice_index sorted t) 0 s last ∙ e ∙ ap (col_at qs) here
  ];
}

pub pivots_all : {qs : List Pair} {k : ℕ} {sorted places columns : List ℕ} → AreRising sorted → length sorted ≤ 2147483648 → IsPlacingPivots qs k sorted places columns → k ≡ length qs → HasPivotsFirst qs columns
pivots_all {qs} {k} {sorted} {places} {columns} rising few i e = record {
  pivotal = λ t l. (omega (arith, i.many), i.pivotal t (omega arith));
  ascending = λ t s le l ls. absurd (omega (arith, i.many));
  distinct = ordering_distinct rising few i.ordering;
}

-- behind the columns that had places before come those that had none, from the first k
pub record IsPlacingOthers (sorted before : List ℕ) (k : ℕ) (places columns : List ℕ) : Type 0 where
  pub ordering : IsOrdering sorted places columns
  pub all : (t : ℕ) → t < k → slice_index places t ≢ 4294967295
  pub more : length before ≤ length columns
  pub kept : (t : ℕ) → t < length before → slice_index columns t ≡ slice_index before t
  pub ascending : (t s : ℕ) → length before ≤ t → t < s → s < length columns → slice_index columns t < slice_index columns s
  pub from : (t : ℕ) → length before ≤ t → t < length columns → (s : ℕ) × (s < k) × (slice_index columns t ≡ slice_index sorted s)

pub others_none : {sorted places columns : List ℕ} → IsOrdering sorted places columns → IsPlacingOthers sorted columns 0 places columns
others_none o = record {
  ordering = o;
  all = λ t l. absurd (omega arith);
  more = omega arith;
  kept = λ t l. refl;
  ascending = λ t s le l ls. absurd (omega arith);
  from = λ t le l. absurd (omega arith);
}

pub others_passed : {sorted before places columns : List ℕ} {k : ℕ} → IsPlacingOthers sorted before k places columns → slice_index places k ≢ 4294967295 → IsPlacingOthers sorted before (k + 1) places columns
others_passed {sorted} {before} {places} {columns} {k} i ne = record {
  ordering = i.ordering;
  all = λ t l. elim (cases_lt t k) [ inl b ↦ i.all t b | inr g ↦ (let e : t ≡ k = omega arith in λ z. ne (ap (slice_index places) (sym e) ∙ z)) ];
  more = i.more;
  kept = i.kept;
  ascending = i.ascending;
  from = λ t le l. let f = i.from t le l in (f.0, omega (arith, f.1), f.2);
}

pub others_more : {sorted before places columns more now : List ℕ} {k : ℕ} → AreRising sorted → length sorted ≤ 2147483648 → IsPlacingOthers sorted before k places columns → k < length sorted →
    IsOrdering sorted more now → more ≡ slice_set places k (length columns) → now ≡ columns ++ slice_index sorted k ∷ [] → IsPlacingOthers sorted before (k + 1) more now
others_more {sorted} {before} {places} {columns} {more} {now} {k} rising few i lk o is_places is = record {
  ordering = o;
  all = λ t l. elim (cases_eq t k) [
    | inl e ↦ (λ z. absurd (omega (arith, ordering_short i.ordering, z, ap (slice_index more) e, ap (λ xs. slice_index xs k) is_places, get_or-set_same places k (length columns) 0 (omega (arith, i.ordering.long)))))
    | inr d ↦ (λ z. i.all t (omega arith) (sym (get_or-set_other places k t (length columns) 0 d) ∙ sym (ap (λ xs. slice_index xs t) is_places) ∙ z))
  ];
  more = omega (arith, long, i.more);
  kept = λ t l. old t (omega (arith, i.more)) ∙ i.kept t l;
  ascending = λ t s le l ls. elim (cases_lt s (length columns)) [
    | inl b ↦ omega (arith, old t (omega arith), old s b, i.ascending t s le l b)
    | inr g ↦
        let e : s ≡ length columns = omega (arith, long) in
        let f = i.from t le (omega arith) in
        omega (arith, old t (omega arith), f.2, rising f.0 k f.1 lk, ap (slice_index now) e, last)
  ];
  from = λ t le l. elim (cases_lt t (length columns)) [
    | inl b ↦ (let f = i.from t le b in (f.0, omega (arith, f.1), old t b ∙ f.2))
    | inr g ↦ (let e : t ≡ length columns = omega (arith, long) in (k, omega arith, ap (slice_index now) e ∙ last))
  ];
}
  where
    long : length now ≡ length columns + 1
    long = ap length is ∙ length_push columns (slice_index sorted k)

    old : (t : ℕ) → t < length columns → slice_index now t ≡ slice_index columns t
    old t l = ap (λ xs. slice_index xs t) is ∙ get_or_append_left columns (slice_index sorted k ∷ []) 0 t l

    last : slice_index now (length columns) ≡ slice_index sorted k
    last = ap (λ xs. slice_index xs (length columns)) is ∙ get_or_push columns (slice_index sorted k) 0 (length columns) refl

pub others_all : {sorted before places columns : List ℕ} {k : ℕ} → AreRising sorted → length sorted ≤ 2147483648 → IsPlacingOthers sorted before k places columns → length sorted ≤ k →
    (qs : List Pair) → HasPivotsFirst qs before → length before ≡ length qs → HasPivotsFirst qs columns
others_all {sorted} {before} {places} {columns} {k} rising few i le qs h e = record {
  pivotal = λ t l. let p = h.pivotal t l in (omega (arith, i.more, p.0), i.kept t p.0 ∙ p.1);
  ascending = λ t s ge l ls. i.ascending t s (omega arith) l ls;
  distinct = ordering_distinct rising few i.ordering;
}

pub others_order : {sorted before places columns : List ℕ} {k : ℕ} → length sorted ≤ 2147483648 → IsPlacingOthers sorted before k places columns → length sorted ≤ k → IsOrderOf sorted places columns
others_order few i le = record { few = few; so_far = i.ordering; all = λ t l. i.all t (omega arith) }

-- what is looked up
pub order_finds : {sorted places columns : List ℕ} → IsOrderOf sorted places columns → (column t : ℕ) → IsPlaceOf sorted column t → IsPlaceOf columns column (slice_index places t)
order_finds o column t p = let q = o.so_far.placed t p.0 (o.all t p.0) in (q.0, q.1 ∙ p.1)

pub order_from : {sorted places columns : List ℕ} → IsOrderOf sorted places columns → (column : ℕ) → Contains columns column → Contains sorted column
order_from {sorted} {places} {columns} o column m =
    let w = place_in columns column m in
    let f = ordering_from o.few o.so_far w.0 w.1 in
    contains_at sorted f.0 column f.1 (f.3 ∙ w.2)

pub order_has : {sorted places columns : List ℕ} → IsOrderOf sorted places columns → (column : ℕ) → Contains sorted column → Contains columns column
order_has {sorted} {places} {columns} o column m =
    let w = place_in sorted column m in
    let q = o.so_far.placed w.0 w.1 (o.all w.0 w.1) in
    contains_at columns (slice_index places w.0) column q.0 (q.1 ∙ w.2)

-- so a place among the sorted ones gives the place
pub order_match : {sorted places columns : List ℕ} → IsOrderOf sorted places columns → (column : ℕ) (found : Option ℕ) → IfNone found (¬ Contains sorted column) →
    IfSome found (λ k. (at : ℕ) × IsPlaceOf sorted column at × (k ≡ slice_index places at)) → MatchOption found (¬ Contains columns column) (IsPlaceOf columns column)
order_match o column None none some = λ m. none (order_from o column m)
order_match {sorted} {places} {columns} o column (Some k) none some = subst (IsPlaceOf columns column) (sym some.2) (order_finds o column some.0 some.1)

-- each is below what bounds the sorted ones
pub order_below : {sorted places columns : List ℕ} {n : ℕ} → IsOrderOf sorted places columns → AreBelow n sorted → AreBelow n columns
order_below o below = λ k l. let f = ordering_from o.few o.so_far k l in omega (arith, below f.0 f.1, f.3)
