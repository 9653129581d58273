-- Each matrix has a reduced echelon form: column by column.
use Rattle.std.proofs.Common.{ℕ, zero, suc, ◌≡◌, ◌+◌, ◌*◌, ◌-◌, ◌%◌, ◌<◌, ◌≤◌, inl, inr, List, slice_index, sym, refl, ap, ap₂, ◌∙◌, arith, mod-lt, mod-eq_of_lt, mul-zero}
use native.Mathlib.Nat.{mod-mod, zero-mod}
use Rattle.std.proofs.lemmas.Bool.{cases_eq}
use Rattle.residue_words.specs.Residues.{IsPrime, sum_below}
use Rattle.residue_words.specs.Matrix.{Matrix, IsMatrix, row, entry, list_of}
use Rattle.residue_words.proofs.Residues.{add_same, mul_same, right_zero, minus_one, product_zero_right}
use Rattle.residue_words.proofs.Sums.{sum_more, sum_equal, sum_same, sum_zero, sum_add, sum_scale, sum_pair}
use Rattle.residue_words.proofs.Vectors.{at_list_of, combination_of, length_list_of, matrix_of, is_matrix_of, entry_matrix_of}
use Rattle.row_space.specs.Echelon.{HasPlaces}
use Rattle.row_space.specs.Laws.{RrefExists}
use Rattle.row_space.proofs.Solvable.{Solves, Refutes, solvable_or_refuted, extended, extended_below, extended_last}
use Rattle.row_space.proofs.Spans.{places_equal, same_span_of_rows}

-- r reduced rows e with their leads, and the coefficients of the rows of a in them and of them in the rows of a
record Reduced (p m n : ℕ) (a : ℕ → ℕ → ℕ) (r : ℕ) (e : ℕ → ℕ → ℕ) (place : ℕ → ℕ) (to from : ℕ → ℕ → ℕ) : Type 0 where
  residues : (k j : ℕ) → k < r → j < n → e k j < p
  form : HasPlaces (λ j lead. j < lead) r n e place
  rows : (i j : ℕ) → i < m → j < n → a i j % p ≡ sum_below r (λ k. to i k * e k j) % p
  back : (k j : ℕ) → k < r → j < n → e k j % p ≡ sum_below m (λ i. from k i * a i j) % p

record HasReduced (p m n : ℕ) (a : ℕ → ℕ → ℕ) : Type 0 where
  r : ℕ
  e : ℕ → ℕ → ℕ
  place : ℕ → ℕ
  to : ℕ → ℕ → ℕ
  from : ℕ → ℕ → ℕ
  is : Reduced p m n a r e place to from

-- with no columns there are no rows
reduced_empty : (p m : ℕ) (a : ℕ → ℕ → ℕ) → HasReduced p m 0 a
reduced_empty p m a = record {
  r = 0;
  e = λ k j. 0;
  place = λ k. 0;
  to = λ i k. 0;
  from = λ k i. 0;
  is = record {
    residues = λ k j l o. absurd (omega arith);
    form = record {
      inside = λ k l. absurd (omega arith);
      one = λ k l. absurd (omega arith);
      past = λ k j l o s. absurd (omega arith);
      rising = λ k t s l. absurd (omega arith);
      alone = λ k t l s d. absurd (omega arith);
    };
    rows = λ i j l o. absurd (omega arith);
    back = λ k j l o. absurd (omega arith);
  };
}

module _ (p m n : ℕ) (a : ℕ → ℕ → ℕ) (r : ℕ) (e : ℕ → ℕ → ℕ) (place : ℕ → ℕ) (to from : ℕ → ℕ → ℕ) (prime : IsPrime p) (h : Reduced p m n a r e place to from) where
  -- the last column is the combination u of the others: the same leads
  wider : (ℕ → ℕ) → ℕ → ℕ → ℕ
  wider u k = extended n (e k) (sum_below n (λ j. e k j * u j) % p)

  wider_below : (u : ℕ → ℕ) (k j : ℕ) → j < n → wider u k j ≡ e k j
  unfolding wider
  wider_below u k j l = extended_below n (e k) _ j l

  wider_last : (u : ℕ → ℕ) (k : ℕ) → wider u k n ≡ sum_below n (λ j. e k j * u j) % p
  unfolding wider
  wider_last u k = extended_last n (e k) _

  wider_reduced : (u : ℕ → ℕ) → Solves p m n a (λ i. a i n) u → Reduced p m (suc n) a r (wider u) place to from
  wider_reduced u s = record {
    residues = λ k j l o. elim (cases_eq j n) [
      | inl z ↦ let two = prime.two_or_more in omega (arith, ap (wider u k) z, wider_last u k, mod-lt (sum_below n (λ j. e k j * u j)) (let pos : 0 < p = omega arith in pos))
      | inr d ↦ omega (arith, wider_below u k j (omega arith), h.residues k j l (omega arith))
    ];
    form = record {
      inside = λ k l. omega (arith, h.form.inside k l);
      one = λ k l. wider_below u k (place k) (h.form.inside k l) ∙ h.form.one k l;
      past = λ k j l o s. let low : j < n = omega (arith, h.form.inside k l) in wider_below u k j low ∙ h.form.past k j l low s;
      rising = h.form.rising;
      alone = λ k t l s d. wider_below u t (place k) (h.form.inside k l) ∙ h.form.alone k t l s d;
    };
    rows = λ i j l o. elim (cases_eq j n) [
      | inl z ↦
          ap (λ x. a i x % p) z ∙ sym (s.at i l)
          ∙ sum_same p n (λ j. a i j * u j) (λ j. sum_below r (λ k. to i k * e k j) * u j) (λ j b. mul_same p (a i j) (sum_below r (λ k. to i k * e k j)) (u j) (u j) (h.rows i j l b) refl)
          ∙ ap (λ x. x % p) (sym (sum_pair r n (to i) e u))
          ∙ sum_same p r (λ k. to i k * sum_below n (λ j. e k j * u j)) (λ k. to i k * wider u k n)
          (λ k b. mul_same p (to i k) (to i k) (sum_below n (λ j. e k j * u j)) (wider u k n) refl (sym (mod-mod _ p) ∙ ap (λ x. x % p) (sym (wider_last u k))))
          ∙ ap (λ x. sum_below r (λ k. to i k * wider u k x) % p) (sym z)
      | inr d ↦
          let low : j < n = omega arith in
          h.rows i j l low ∙ ap (λ x. x % p) (sum_equal r (λ k. to i k * e k j) (λ k. to i k * wider u k j) (λ k b. ap (λ x. to i k * x) (sym (wider_below u k j low))))
    ];
    back = λ k j l o. elim (cases_eq j n) [
      | inl z ↦
          ap (λ x. wider u k x % p) z ∙ ap (λ x. x % p) (wider_last u k) ∙ mod-mod _ p
          ∙ sum_same p n (λ j. e k j * u j) (λ j. sum_below m (λ i. from k i * a i j) * u j) (λ j b. mul_same p (e k j) (sum_below m (λ i. from k i * a i j)) (u j) (u j) (h.back k j l b) refl)
          ∙ ap (λ x. x % p) (sym (sum_pair m n (from k) a u))
          ∙ sum_same p m (λ i. from k i * sum_below n (λ j. a i j * u j)) (λ i. from k i * a i n) (λ i b. mul_same p (from k i) (from k i) (sum_below n (λ j. a i j * u j)) (a i n) refl (s.at i b))
          ∙ ap (λ x. sum_below m (λ i. from k i * a i x) % p) (sym z)
      | inr d ↦ let low : j < n = omega arith in ap (λ x. x % p) (wider_below u k j low) ∙ h.back k j l low
    ];
  }

  module _ (q : ℕ) (next : p ≡ suc q) (y : ℕ → ℕ) (s : Refutes p m n a (λ i. a i n) y) where
    -- the last column is no combination of the others: a new row with its lead there
    taller : ℕ → ℕ → ℕ
    taller k j = extended r (λ k. extended n (e k) 0 j) (extended n (λ j. 0) 1 j) k

    taller_old : (k j : ℕ) → k < r → j < n → taller k j ≡ e k j
    unfolding taller
    taller_old k j l o = extended_below r (λ k. extended n (e k) 0 j) _ k l ∙ extended_below n (e k) 0 j o

    taller_side : (k : ℕ) → k < r → taller k n ≡ 0
    unfolding taller
    taller_side k l = extended_below r (λ k. extended n (e k) 0 n) _ k l ∙ extended_last n (e k) 0

    taller_row : (j : ℕ) → j < n → taller r j ≡ 0
    unfolding taller
    taller_row j o = extended_last r (λ k. extended n (e k) 0 j) _ ∙ extended_below n (λ j. 0) 1 j o

    taller_corner : taller r n ≡ 1
    unfolding taller
    taller_corner = extended_last r (λ k. extended n (e k) 0 n) _ ∙ extended_last n (λ j. 0) 1

    leads : ℕ → ℕ
    leads = extended r place n

    leads_old : (k : ℕ) → k < r → leads k ≡ place k
    unfolding leads
    leads_old k l = extended_below r place n k l

    leads_new : leads r ≡ n
    unfolding leads
    leads_new = extended_last r place n

    into : ℕ → ℕ → ℕ
    into i = extended r (to i) (a i n)

    -- what the old row k has in the last column
    excess : ℕ → ℕ
    excess k = sum_below m (λ i. from k i * a i n)

    out : ℕ → ℕ → ℕ
    out k i = extended r (λ k. from k i + q * excess k * y i) (y i) k

    out_sum : (k : ℕ) (f : ℕ → ℕ) → k < r → sum_below m (λ i. out k i * f i) ≡ sum_below m (λ i. from k i * f i) + q * excess k * sum_below m (λ i. y i * f i)
    unfolding out
    out_sum k f l =
        sum_equal m (λ i. out k i * f i) (λ i. from k i * f i + q * excess k * (y i * f i))
        (λ i b. ap (λ x. x * f i) (extended_below r (λ k. from k i + q * excess k * y i) (y i) k l) ∙ omega arith)
        ∙ sum_add m (λ i. from k i * f i) (λ i. q * excess k * (y i * f i))
        ∙ ap (λ x. sum_below m (λ i. from k i * f i) + x) (sum_scale m (q * excess k) (λ i. y i * f i))

    out_new : (f : ℕ → ℕ) → sum_below m (λ i. out r i * f i) ≡ sum_below m (λ i. y i * f i)
    unfolding out
    out_new f = sum_equal m (λ i. out r i * f i) (λ i. y i * f i) (λ i b. ap (λ x. x * f i) (extended_last r (λ k. from k i + q * excess k * y i) (y i)))

    into_sum : (i j : ℕ) → sum_below (suc r) (λ k. into i k * taller k j) ≡ sum_below r (λ k. to i k * taller k j) + a i n * taller r j
    unfolding into
    into_sum i j =
        ap (λ x. sum_below x (λ k. into i k * taller k j)) (let more : suc r ≡ r + 1 = omega arith in more) ∙ sum_more r (λ k. into i k * taller k j)
        ∙ ap₂ (λ x z. x + z * taller r j) (sum_equal r (λ k. into i k * taller k j) (λ k. to i k * taller k j) (λ k l. ap (λ x. x * taller k j) (extended_below r (to i) (a i n) k l)))
        (extended_last r (to i) (a i n))

    taller_reduced : Reduced p m (suc n) a (suc r) taller leads into out
    unfolding excess
    taller_reduced =
        let two : 2 ≤ p = prime.two_or_more in
        record {
          residues = λ k j l o. elim (cases_eq k r) [
            | inl z ↦ elim (cases_eq j n) [
              | inl w ↦ omega (arith, ap (λ x. taller x j) z, ap (taller r) w, taller_corner)
              | inr d ↦ omega (arith, ap (λ x. taller x j) z, taller_row j (omega arith))
            ]
            | inr c ↦ elim (cases_eq j n) [
              | inl w ↦ omega (arith, ap (taller k) w, taller_side k (omega arith))
              | inr d ↦ omega (arith, taller_old k j (omega arith) (omega arith), h.residues k j (omega arith) (omega arith))
            ]
          ];
          form = record {
            inside = λ k l. elim (cases_eq k r) [
              | inl z ↦ omega (arith, ap leads z, leads_new)
              | inr c ↦ omega (arith, leads_old k (omega arith), h.form.inside k (omega arith))
            ];
            one = λ k l. elim (cases_eq k r) [
              | inl z ↦ ap (λ x. taller x (leads x)) z ∙ ap (taller r) leads_new ∙ taller_corner
              | inr c ↦ let low : k < r = omega arith in ap (taller k) (leads_old k low) ∙ taller_old k (place k) low (h.form.inside k low) ∙ h.form.one k low
            ];
            past = λ k j l o t. elim (cases_eq k r) [
              | inl z ↦ ap (λ x. taller x j) z ∙ taller_row j (omega (arith, ap leads z, leads_new))
              | inr c ↦
                  let low : k < r = omega arith in
                  let before : j < place k = omega (arith, leads_old k low) in
                  let front : j < n = omega (arith, h.form.inside k low) in
                  taller_old k j low front ∙ h.form.past k j low front before
            ];
            rising = λ k t b l. elim (cases_eq t r) [
              | inl z ↦ omega (arith, ap leads z, leads_new, leads_old k (omega arith), h.form.inside k (omega arith))
              | inr c ↦ omega (arith, leads_old k (omega arith), leads_old t (omega arith), h.form.rising k t b (omega arith))
            ];
            alone = λ k t l b d. elim (cases_eq k r) [
              | inl z ↦ let low : t < r = omega arith in ap (λ x. taller t (leads x)) z ∙ ap (taller t) leads_new ∙ taller_side t low
              | inr c ↦
                  let low : k < r = omega arith in
                  ap (taller t) (leads_old k low) ∙ elim (cases_eq t r) [
                    | inl z ↦ ap (λ x. taller x (place k)) z ∙ taller_row (place k) (h.form.inside k low)
                    | inr f ↦ let under : t < r = omega arith in taller_old t (place k) under (h.form.inside k low) ∙ h.form.alone k t low under d
                  ]
            ];
          };
          rows = λ i j l o. elim (cases_eq j n) [
            | inl z ↦
                let none : sum_below r (λ k. to i k * taller k n) ≡ 0 = sum_zero r (λ k. to i k * taller k n) (λ k b. ap (λ x. to i k * x) (taller_side k b) ∙ mul-zero (to i k)) in
                let last : sum_below r (λ k. to i k * taller k n) + a i n * taller r n ≡ a i n = omega (arith, none, ap (λ x. a i n * x) taller_corner) in
                ap (λ x. a i x % p) z ∙ ap (λ x. x % p) (sym (into_sum i n ∙ last)) ∙ ap (λ x. sum_below (suc r) (λ k. into i k * taller k x) % p) (sym z)
            | inr d ↦
                let low : j < n = omega arith in
                let old : sum_below r (λ k. to i k * taller k j) ≡ sum_below r (λ k. to i k * e k j) =
                sum_equal r (λ k. to i k * taller k j) (λ k. to i k * e k j) (λ k b. ap (λ x. to i k * x) (taller_old k j b low)) in
                let whole : sum_below (suc r) (λ k. into i k * taller k j) ≡ sum_below r (λ k. to i k * e k j) = omega (arith, into_sum i j, old, ap (λ x. a i n * x) (taller_row j low)) in
                h.rows i j l low ∙ ap (λ x. x % p) (sym whole)
          ];
          back = λ k j l o. elim (cases_eq k r) [
            | inl z ↦ ap (λ x. taller x j % p) z ∙ elim (cases_eq j n) [
              | inl w ↦ ap (λ x. taller r x % p) w ∙ ap (λ x. x % p) taller_corner ∙ mod-eq_of_lt two ∙ sym s.one
                  ∙ ap (λ x. sum_below m (λ i. y i * a i x) % p) (sym w)
              | inr d ↦ let low : j < n = omega arith in ap (λ x. x % p) (taller_row j low) ∙ zero-mod p ∙ sym (s.annuls j low)
            ]
                ∙ ap (λ x. x % p) (sym (out_new (λ i. a i j))) ∙ ap (λ x. sum_below m (λ i. out x i * a i j) % p) (sym z)
            | inr c ↦
                let low : k < r = omega arith in
                elim (cases_eq j n) [
                  | inl w ↦ ap (λ x. taller k x % p) w ∙ ap (λ x. x % p) (taller_side k low) ∙ zero-mod p
                      ∙ sym (add_same p (excess k) (excess k) (q * excess k * sum_below m (λ i. y i * a i n)) (q * excess k * 1) refl
                      (mul_same p (q * excess k) (q * excess k) (sum_below m (λ i. y i * a i n)) 1 refl (s.one ∙ sym (mod-eq_of_lt two)))
                      ∙ ap (λ x. x % p) (let turn : excess k + q * excess k * 1 ≡ q * excess k + excess k = omega arith in turn) ∙ minus_one p q (excess k) next)
                      ∙ ap (λ x. (sum_below m (λ i. from k i * a i x) + q * excess k * sum_below m (λ i. y i * a i x)) % p) (sym w)
                  | inr d ↦ let front : j < n = omega arith in
                      ap (λ x. x % p) (taller_old k j low front) ∙ h.back k j low front
                      ∙ sym (right_zero p (sum_below m (λ i. from k i * a i j)) (q * excess k * sum_below m (λ i. y i * a i j)) (product_zero_right p (q * excess k) _ (s.annuls j front)))
                ]
                ∙ ap (λ x. x % p) (sym (out_sum k (λ i. a i j) low))
          ];
        }

-- reduced rows exist, column by column
reduced : (p m n : ℕ) (a : ℕ → ℕ → ℕ) → IsPrime p → HasReduced p m n a
reduced p m zero a prime = reduced_empty p m a
reduced p m (suc n) a prime =
    let two : 2 ≤ p = prime.two_or_more in
    let q : ℕ = p - 1 in
    let next : p ≡ suc q = omega arith in
    let h : HasReduced p m n a = reduced p m n a prime in
    elim (solvable_or_refuted p m n a (λ i. a i n) prime) [
      | inl u ↦ record {
        r = h.r;
        e = wider p m n a h.r h.e h.place h.to h.from prime h.is u.0;
        place = h.place;
        to = h.to;
        from = h.from;
        is = wider_reduced p m n a h.r h.e h.place h.to h.from prime h.is u.0 u.1;
      }
      | inr y ↦ record {
        r = suc h.r;
        e = taller p m n a h.r h.e h.place h.to h.from prime h.is q next y.0 y.1;
        place = leads p m n a h.r h.e h.place h.to h.from prime h.is q next y.0 y.1;
        to = into p m n a h.r h.e h.place h.to h.from prime h.is q next y.0 y.1;
        from = out p m n a h.r h.e h.place h.to h.from prime h.is q next y.0 y.1;
        is = taller_reduced p m n a h.r h.e h.place h.to h.from prime h.is q next y.0 y.1;
      }
    ]

pub rref_of_each : RrefExists
rref_of_each p A prime m =
    let two : 2 ≤ p = prime.two_or_more in
    let pos : 0 < p = omega arith in
    let h : HasReduced p A.height A.width (entry A) = reduced p A.height A.width (entry A) prime in
    let E : Matrix = matrix_of h.r A.width h.e in
    let ls : List ℕ = list_of h.r h.place in
    let me : IsMatrix p E = is_matrix_of p h.r A.width h.e h.is.residues in
    let same : (k j : ℕ) → k < h.r → j < A.width → entry E k j ≡ h.e k j = λ k j l o. entry_matrix_of h.r A.width h.e k j l o in (
      E,
      record {
        matrix = me;
        width = refl;
        form = (
          ls,
          (
            length_list_of h.r h.place,
            places_equal (λ j lead. j < lead) h.r A.width h.e (entry E) h.place (slice_index ls) h.is.form (λ k j l o. sym (same k j l o)) (λ k l. sym (at_list_of h.r h.place k l)),
          ),
        );
        span = same_span_of_rows p A E pos refl
            (λ i l. combination_of p E (row A i) (h.to i) pos (m.each i l) (λ j o.
            h.is.rows i j l o ∙ ap (λ x. x % p) (sum_equal h.r (λ k. h.to i k * h.e k j) (λ k. h.to i k * entry E k j) (λ k b. ap (λ x. h.to i k * x) (sym (same k j b o))))))
            (λ k l. combination_of p A (row E k) (h.from k) pos (me.each k l) (λ j o. ap (λ x. x % p) (same k j l o) ∙ h.is.back k j l o));
      },
    )
