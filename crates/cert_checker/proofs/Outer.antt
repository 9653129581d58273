-- The outermost entries of rows, row by row.
use Rattle.std.proofs.Common.{ℕ, ◌≡◌, ◌≢◌, ◌+◌, ◌<◌, ◌≤◌, ◌⊎◌, inl, inr, List, [], ◌∷◌, ◌++◌, length, slice_index, sym, refl, ap, subst, ◌∙◌, arith}
use Rattle.std.proofs.lemmas.Bool.{cases_eq, cases_lt}
use Rattle.std.proofs.lemmas.List.{get_or_append_left, get_or_push, length_push}
use Rattle.residue_words.specs.Matrix.{Matrix, IsMatrix, IsVector, entry, row}
use Rattle.residue_words.proofs.Vectors.{entry_matrix_of, entry_residue, is_matrix_of}
use Rattle.sparse_rows.specs.Rows.{nonzeros, support, transposed}
use Rattle.sparse_rows.specs.Stored.{IsSparse}
use Rattle.sparse_rows.proofs.Spread.{support_sparse}
use Rattle.cert_checker.specs.declared.outer_ones.Side.{Side}
use Rattle.cert_checker.specs.declared.outer_ones.Side.TheVariants.{Left, Right}
use Rattle.cert_checker.specs.OuterOnes.{AreAlone, AreOuterOnes, AreSingle, IsOuterOne, IsOutermost, IsOutside}
use Rattle.cert_checker.proofs.Ending.{stored_cover, stored_positive, stored_value}

-- of two columns one is outside, or they are one
pub outside_or : (side : Side) (c d : ℕ) → c ≢ d → IsOutside side c d ⊎ IsOutside side d c
outside_or Left c d o = elim (cases_lt c d) [ inl l ↦ inl l | inr l ↦ inr (omega arith) ]
outside_or Right c d o = elim (cases_lt c d) [ inl l ↦ inr l | inr l ↦ inl (omega arith) ]

-- places of a rising list lie as the columns there do
pub outside_at : (side : Side) (cs : List ℕ) → ((k t : ℕ) → k < t → t < length cs → slice_index cs k < slice_index cs t) → (s q : ℕ) → s < length cs → q < length cs →
    IsOutside side s q → IsOutside side (slice_index cs s) (slice_index cs q)
outside_at Left cs rising s q ls lq o = rising s q o lq
outside_at Right cs rising s q ls lq o = rising q s o ls

pub not_both : (side : Side) (c d : ℕ) → IsOutside side c d → IsOutside side d c → ⊥
not_both Left c d a b = omega (arith, a, b)
not_both Right c d a b = omega (arith, a, b)

-- a row has one outermost one at most
pub outer_unique : (side : Side) (n : ℕ) (e : ℕ → ℕ) (c d : ℕ) → IsOuterOne side n e c → IsOuterOne side n e d → c ≡ d
outer_unique side n e c d a b = elim (cases_eq c d) [
  | inl same ↦ same
  | inr o ↦ elim (outside_or side c d o) [
    | inl l ↦ absurd (omega (arith, b.outside c a.inside l, a.one))
    | inr l ↦ absurd (omega (arith, a.outside d b.inside l, b.one))
  ]
]

-- by what is stored: the outermost stored entry is it where it is 1
module _ {p n : ℕ} {v : List ℕ} (h : IsVector p n v) (side : Side) where
  rising : IsSparse p n (support v) (nonzeros v)
  rising = support_sparse h

  pub outer_yes : (q : ℕ) → IsOutermost side (length (support v)) q → slice_index (nonzeros v) q ≡ 1 → IsOuterOne side n (slice_index v) (slice_index (support v) q)
  outer_yes q o one = record {
    inside = rising.below q o.inside;
    one = stored_value h q o.inside ∙ one;
    outside = λ j b past. elim (stored_cover v j) [
      | inl z ↦ z
      | inr w ↦ elim (cases_eq w.0 q) [
        | inl same ↦
            let at : j ≡ slice_index (support v) q = sym w.2 ∙ ap (slice_index (support v)) same in
            absurd (not_both side j j (subst (IsOutside side j) (sym at) past) (subst (IsOutside side j) (sym at) past))
        | inr d ↦ elim (outside_or side w.0 q d) [
          | inl l ↦ absurd (o.none w.0 w.1 l)
          | inr l ↦ absurd (not_both side _ _ (outside_at side (support v) rising.rising q w.0 o.inside w.1 l) (subst (λ x. IsOutside side x (slice_index (support v) q)) (sym w.2) past))
        ]
      ]
    ];
  }

  pub outer_none : (c : ℕ) → length (support v) ≡ 0 → IsOuterOne side n (slice_index v) c → ⊥
  outer_none c none m = elim (stored_cover v c) [ inl z ↦ omega (arith, m.one, z) | inr w ↦ omega (arith, w.1) ]

  pub outer_other : (c q : ℕ) → IsOutermost side (length (support v)) q → slice_index (nonzeros v) q ≢ 1 → IsOuterOne side n (slice_index v) c → ⊥
  outer_other c q o d m = elim (stored_cover v c) [
    | inl z ↦ omega (arith, m.one, z)
    | inr w ↦ elim (cases_eq w.0 q) [
      | inl same ↦ d (sym (stored_value h q o.inside) ∙ ap (λ x. slice_index v (slice_index (support v) x)) (sym same) ∙ ap (slice_index v) w.2 ∙ m.one)
      | inr e ↦ elim (outside_or side w.0 q e) [
        | inl l ↦ o.none w.0 w.1 l
        | inr l ↦
            let past : IsOutside side (slice_index (support v) q) c = subst (IsOutside side (slice_index (support v) q)) w.2 (outside_at side (support v) rising.rising q w.0 o.inside w.1 l) in
            omega (arith, stored_positive h q o.inside, m.outside (slice_index (support v) q) (rising.below q o.inside) past)
      ]
    ]
  ]

-- those of the first k rows
pub record AreOuterOnesSoFar (side : Side) (E : Matrix) (k least : ℕ) (ones : List ℕ) : Type 0 where
  pub len : length ones ≡ k
  pub each : (t : ℕ) → t < k → IsOuterOne side E.width (entry E t) (slice_index ones t)
  pub rising : (s t : ℕ) → s < t → t < k → slice_index ones s < slice_index ones t
  pub under : (t : ℕ) → t < k → slice_index ones t < least
  pub least_is : (least ≡ 0) ⊎ ((t : ℕ) × (t < k) × (least ≡ slice_index ones t + 1))

pub ones_none : (side : Side) (E : Matrix) → AreOuterOnesSoFar side E 0 0 []
ones_none side E = record {
  len = refl;
  each = λ t l. absurd (omega arith);
  rising = λ s t a l. absurd (omega arith);
  under = λ t l. absurd (omega arith);
  least_is = inl refl;
}

module _ {side : Side} {E : Matrix} {k least : ℕ} {ones : List ℕ} (m : AreOuterOnesSoFar side E k least ones) where
  pub ones_more : (c : ℕ) → IsOuterOne side E.width (entry E k) c → least ≤ c → AreOuterOnesSoFar side E (k + 1) (c + 1) (ones ++ c ∷ [])
  ones_more c one b =
      let long : length (ones ++ c ∷ []) ≡ length ones + 1 = length_push ones c in
      let old : (t : ℕ) → t < k → slice_index (ones ++ c ∷ []) t ≡ slice_index ones t = λ t l. get_or_append_left ones (c ∷ []) 0 t (omega (arith, m.len)) in
      let new : slice_index (ones ++ c ∷ []) k ≡ c = get_or_push ones c 0 k m.len in
      record {
        len = omega (arith, m.len);
        each = λ t l. elim (cases_eq t k) [
          | inl same ↦ subst (λ x. IsOuterOne side E.width (entry E x) (slice_index (ones ++ c ∷ []) x)) (sym same) (subst (IsOuterOne side E.width (entry E k)) (sym new) one)
          | inr d ↦ subst (IsOuterOne side E.width (entry E t)) (sym (old t (omega arith))) (m.each t (omega arith))
        ];
        rising = λ s t a l. elim (cases_eq t k) [
          | inl same ↦ omega (arith, old s (omega arith), new, ap (slice_index (ones ++ c ∷ [])) same, m.under s (omega arith))
          | inr d ↦ omega (arith, old s (omega arith), old t (omega arith), m.rising s t a (omega arith))
        ];
        under = λ t l. elim (cases_eq t k) [
          | inl same ↦ omega (arith, new, ap (slice_index (ones ++ c ∷ [])) same)
          | inr d ↦ omega (arith, old t (omega arith), m.under t (omega arith))
        ];
        least_is = inr (k, omega arith, ap (λ x. x + 1) (sym new));
      }

  pub ones_low : (c : ℕ) → k < E.height → IsOuterOne side E.width (entry E k) c → c < least → (others : List ℕ) → AreOuterOnes side E others → ⊥
  ones_low c l one low others a = elim m.least_is [
    | inl z ↦ omega arith
    | inr w ↦
        let e : slice_index others k ≡ c = outer_unique side E.width (entry E k) _ _ (a.each k l) one in
        let f : slice_index others w.0 ≡ slice_index ones w.0 = outer_unique side E.width (entry E w.0) _ _ (a.each w.0 (omega (arith, w.1))) (m.each w.0 w.1) in
        omega (arith, w.2, a.rising w.0 k w.1 l)
  ]

  pub ones_all : k ≡ E.height → AreOuterOnes side E ones
  ones_all e = record {
    len = m.len ∙ e;
    each = λ t l. m.each t (omega arith);
    rising = λ s t a l. m.rising s t a (omega arith);
  }

-- the other rows are 0 at a row's one exactly where the column there has one entry
module _ {p : ℕ} {side : Side} {E : Matrix} {ones : List ℕ} (m : IsMatrix p E) (a : AreOuterOnes side E ones) where
  abbrev T : Matrix
  T = transposed E

  turned : IsMatrix p T
  turned = is_matrix_of p E.width E.height (λ i j. entry E j i) (λ i j li lj. entry_residue p E m j i lj li)

  inside : (k : ℕ) → k < length ones → slice_index ones k < E.width
  inside k l = (a.each k (omega (arith, a.len))).inside

  column : (k : ℕ) → k < length ones → IsVector p E.height (row T (slice_index ones k))
  column k l = turned.each (slice_index ones k) (inside k l)

  at : (k t : ℕ) → k < length ones → t < E.height → slice_index (row T (slice_index ones k)) t ≡ entry E t (slice_index ones k)
  at k t l b = entry_matrix_of E.width E.height (λ i j. entry E j i) (slice_index ones k) t (inside k l) b

  pub single_alone : AreSingle T ones → AreAlone E ones
  single_alone single t k lt lk d = elim (stored_cover (row T (slice_index ones k)) t) [
    | inl z ↦ sym (at k t lk lt) ∙ z
    | inr w ↦ elim (stored_cover (row T (slice_index ones k)) k) [
      | inl z ↦ absurd (omega (arith, at k k lk (omega (arith, a.len)), z, (a.each k (omega (arith, a.len))).one))
      | inr x ↦
          let same : w.0 ≡ x.0 = omega (arith, single k lk, w.1, x.1) in
          absurd (d (sym w.2 ∙ ap (slice_index (support (row T (slice_index ones k)))) same ∙ x.2))
    ]
  ]

  pub alone_single : AreAlone E ones → AreSingle T ones
  alone_single alone k lk =
      let v : List ℕ = row T (slice_index ones k) in
      let s : IsSparse p E.height (support v) (nonzeros v) = support_sparse (column k lk) in
      let own : (q : ℕ) → q < length (support v) → slice_index (support v) q ≡ k = λ q l. elim (cases_eq (slice_index (support v) q) k) [
        | inl same ↦ same
        | inr d ↦ absurd (omega (arith, stored_positive (column k lk) q l, at k (slice_index (support v) q) lk (s.below q l), alone (slice_index (support v) q) k (s.below q l) lk d))
      ] in
      elim (stored_cover v k) [
        | inl z ↦ absurd (omega (arith, at k k lk (omega (arith, a.len)), z, (a.each k (omega (arith, a.len))).one))
        | inr x ↦ elim (cases_lt 1 (length (support v))) [
          | inl two ↦ absurd (omega (arith, s.rising 0 1 (omega arith) two, own 0 (omega arith), own 1 two))
          | inr few ↦ omega (arith, x.1)
        ]
      ]
