-- A system is solvable, or a combination of its rows refutes it: by induction on the columns.
use Rattle.std.proofs.Common.{ℕ, zero, suc, ◌≡◌, ◌≢◌, ◌+◌, ◌*◌, ◌-◌, ◌%◌, ◌<◌, ◌≤◌, ◌⊎◌, inl, inr, cond, ltb, List, slice_index, sym, refl, ap, ap₂, ◌∙◌, arith, mod-eq_of_lt, mod-lt, lt-ltb, le-ltb, zero-mul, mul_comm}
use native.Mathlib.Nat.{zero-mod}
use Rattle.std.proofs.lemmas.Bool.{cases_eq, cond-true, cond-false}
use Rattle.residue_words.specs.Residues.{IsPrime, sum_below}
use Rattle.residue_words.specs.Matrix.{Matrix, IsVector, entry, list_of, apply, combine, dot, zeros}
use Rattle.residue_words.proofs.Residues.{add_same, mul_same, left_zero, right_zero, inverse, minus_one, product_zero_right}
use Rattle.residue_words.proofs.Sums.{sum_none, sum_more, sum_equal, sum_same, sum_single, sum_zero_same, sum_add, sum_scale, sum_pair, sum_reduce, sum_reduce_right}
use Rattle.residue_words.proofs.Vectors.{at_apply, at_list_of, at_zeros, delta, delta_same, delta_other, dot_combine, list_of_equal, vector_of, list_equal, length_list_of}
use Rattle.row_space.specs.Solution.{Annuls, IsSolution}
use Rattle.row_space.specs.Laws.{Alternative}

-- f below n, and c from n on
abbrev pub extended : ℕ → (ℕ → ℕ) → ℕ → ℕ → ℕ
extended n f c j = cond (ltb j n) (f j) c

pub extended_below : (n : ℕ) (f : ℕ → ℕ) (c j : ℕ) → j < n → extended n f c j ≡ f j
extended_below n f c j l = cond-true (ltb j n) (f j) c (lt-ltb j n l)

pub extended_last : (n : ℕ) (f : ℕ → ℕ) (c : ℕ) → extended n f c n ≡ c
extended_last n f c = cond-false (ltb n n) (f n) c (le-ltb n n (omega arith))

-- the m x n system a x = b has the solution x
pub record Solves (p m n : ℕ) (a : ℕ → ℕ → ℕ) (b x : ℕ → ℕ) : Type 0 where
  pub at : (i : ℕ) → i < m → sum_below n (λ j. a i j * x j) % p ≡ b i % p

-- y a = 0 and y . b = 1
pub record Refutes (p m n : ℕ) (a : ℕ → ℕ → ℕ) (b y : ℕ → ℕ) : Type 0 where
  pub annuls : (j : ℕ) → j < n → sum_below m (λ i. y i * a i j) % p ≡ 0
  pub one : sum_below m (λ i. y i * b i) % p ≡ 1

-- all the values are zero modulo p, or one is not
zero_or_not : (p m : ℕ) (b : ℕ → ℕ) → ((i : ℕ) → i < m → b i % p ≡ 0) ⊎ ((i : ℕ) × (i < m) × (b i % p ≢ 0))
zero_or_not p zero b = inl (λ i l. absurd (omega arith))
zero_or_not p (suc m) b =
    elim (cases_eq (b m % p) 0) [
      | inr d ↦ inr (m, omega arith, d)
      | inl z ↦ elim (zero_or_not p m b) [
        | inl all ↦ inl (λ i l. elim (cases_eq i m) [ inl e ↦ ap (λ k. b k % p) e ∙ z | inr d ↦ all i (omega arith) ])
        | inr w ↦ inr (w.0, omega (arith, w.1), w.2)
      ]
    ]

-- with no columns: solvable where b is zero
solvable_empty : (p m : ℕ) (a : ℕ → ℕ → ℕ) (b : ℕ → ℕ) → IsPrime p → ((x : ℕ → ℕ) × Solves p m 0 a b x) ⊎ ((y : ℕ → ℕ) × Refutes p m 0 a b y)
solvable_empty p m a b prime =
    elim (zero_or_not p m b) [
      | inl all ↦ inl (λ j. 0, record { at = λ i l. ap (λ t. t % p) (sum_none (λ j. a i j * 0)) ∙ zero-mod p ∙ sym (all i l) })
      | inr w ↦
          let v = inverse p (b w.0) prime w.2 in
          inr (
            λ i. delta w.0 i * v.0,
            record {
              annuls = λ j l. absurd (omega arith);
              one = ap (λ t. t % p) (sum_single m (λ i. delta w.0 i * v.0 * b i) w.0 w.1 (λ i l d. ap (λ t. t * v.0 * b i) (delta_other w.0 i d) ∙ omega arith)
                  ∙ ap (λ t. t * v.0 * b w.0) (delta_same w.0) ∙ (let turn : 1 * v.0 * b w.0 ≡ b w.0 * v.0 = omega arith in turn)) ∙ v.2;
            },
          )
    ]

module _ (p m n : ℕ) (a : ℕ → ℕ → ℕ) (b : ℕ → ℕ) (prime : IsPrime p) where
  -- the last column is a combination u of the others: a solution without it
  more_solved : (x : ℕ → ℕ) → Solves p m n a b x → Solves p m (suc n) a b (extended n x 0)
  more_solved x s = record {
    at = λ i l.
        ap (λ t. t % p) (ap (λ k. sum_below k (λ j. a i j * extended n x 0 j)) (let next : suc n ≡ n + 1 = omega arith in next)
        ∙ sum_more n (λ j. a i j * extended n x 0 j)
        ∙ ap₂ (λ s t. s + a i n * t) (sum_equal n (λ j. a i j * extended n x 0 j) (λ j. a i j * x j) (λ j k. ap (λ t. a i j * t) (extended_below n x 0 j k))) (extended_last n x 0)
        ∙ (let none : sum_below n (λ j. a i j * x j) + a i n * 0 ≡ sum_below n (λ j. a i j * x j) = omega arith in none))
        ∙ s.at i l;
  }

  -- a refutation without the last column annuls it too, if it is a combination u of the others
  more_refuted : (u y : ℕ → ℕ) → Solves p m n a (λ i. a i n) u → Refutes p m n a b y → Refutes p m (suc n) a b y
  more_refuted u y s r = record {
    annuls = λ j l. elim (cases_eq j n) [
      | inr d ↦ r.annuls j (omega arith)
      | inl e ↦
          ap (λ k. sum_below m (λ i. y i * a i k) % p) e
          ∙ sym (sum_same p m (λ i. y i * sum_below n (λ j. a i j * u j)) (λ i. y i * a i n) (λ i k. mul_same p (y i) (y i) (sum_below n (λ j. a i j * u j)) (a i n) refl (s.at i k)))
          ∙ ap (λ t. t % p) (sum_pair m n y a u)
          ∙ sum_zero_same p n (λ j. sum_below m (λ i. y i * a i j) * u j) (λ j k. mul_same p (sum_below m (λ i. y i * a i j)) 0 (u j) (u j) (r.annuls j k ∙ sym (zero-mod p)) refl
          ∙ ap (λ t. t % p) (zero-mul (u j)) ∙ zero-mod p)
    ];
    one = r.one;
  }

  module _ (q : ℕ) (next : p ≡ suc q) (y : ℕ → ℕ) (r : Refutes p m n a (λ i. a i n) y) where
    -- with y a = 0 left of the last column c and y . c = 1, the coefficient of c is y . b
    share : ℕ
    share = sum_below m (λ i. y i * b i)

    -- b - (y . b) c
    side : ℕ → ℕ
    side i = b i + q * (share * a i n)

    solved_by_share : (x : ℕ → ℕ) → Solves p m n a side x → Solves p m (suc n) a b (extended n x share)
    unfolding side
    solved_by_share x s = record {
      at = λ i l.
          let t : ℕ = share * a i n in
          let rest : (b i + q * t + t) % p ≡ b i % p =
          ap (λ z. z % p) (let turn : b i + q * t + t ≡ b i + (q * t + t) = omega arith in turn) ∙ right_zero p (b i) (q * t + t) (minus_one p q t next) in
          ap (λ t. t % p) (ap (λ k. sum_below k (λ j. a i j * extended n x share j)) (let next : suc n ≡ n + 1 = omega arith in next)
          ∙ sum_more n (λ j. a i j * extended n x share j)
          ∙ ap₂ (λ s t. s + a i n * t) (sum_equal n (λ j. a i j * extended n x share j) (λ j. a i j * x j) (λ j k. ap (λ t. a i j * t) (extended_below n x share j k))) (extended_last n x share))
          ∙ add_same p (sum_below n (λ j. a i j * x j)) (b i + q * t) (a i n * share) t (s.at i l) (ap (λ z. z % p) (mul_comm (a i n) share))
          ∙ rest;
    }

    -- z - (z . c) y
    corrected : (ℕ → ℕ) → ℕ → ℕ
    corrected z i = z i + q * sum_below m (λ i. z i * a i n) * y i

    corrected_sum : (z f : ℕ → ℕ) → sum_below m (λ i. corrected z i * f i) ≡ sum_below m (λ i. z i * f i) + q * sum_below m (λ i. z i * a i n) * sum_below m (λ i. y i * f i)
    unfolding corrected
    corrected_sum z f =
        sum_equal m (λ i. (z i + q * sum_below m (λ i. z i * a i n) * y i) * f i) (λ i. z i * f i + q * sum_below m (λ i. z i * a i n) * (y i * f i)) (λ i l. omega arith)
        ∙ sum_add m (λ i. z i * f i) (λ i. q * sum_below m (λ i. z i * a i n) * (y i * f i))
        ∙ ap (λ t. sum_below m (λ i. z i * f i) + t) (sum_scale m (q * sum_below m (λ i. z i * a i n)) (λ i. y i * f i))

    refuted_by_corrected : (z : ℕ → ℕ) → Refutes p m n a side z → Refutes p m (suc n) a b (corrected z)
    unfolding side share
    refuted_by_corrected z s =
        let w : ℕ = sum_below m (λ i. z i * a i n) in
        record {
          annuls = λ j l. ap (λ t. t % p) (corrected_sum z (λ i. a i j)) ∙ elim (cases_eq j n) [
            | inr d ↦ left_zero p _ _ (s.annuls j (omega arith)) ∙ product_zero_right p (q * w) _ (r.annuls j (omega arith))
            | inl e ↦
                ap (λ k. (sum_below m (λ i. z i * a i k) + q * w * sum_below m (λ i. y i * a i k)) % p) e
                ∙ add_same p w w (q * w * sum_below m (λ i. y i * a i n)) (q * w * 1) refl
                (mul_same p (q * w) (q * w) (sum_below m (λ i. y i * a i n)) 1 refl (r.one ∙ sym (mod-eq_of_lt prime.two_or_more)))
                ∙ ap (λ t. t % p) (let turn : w + q * w * 1 ≡ q * w + w = omega arith in turn) ∙ minus_one p q w next
          ];
          one =
              ap (λ t. t % p) (corrected_sum z b
              ∙ (let turn : sum_below m (λ i. z i * b i) + q * w * share ≡ sum_below m (λ i. z i * b i) + q * share * w = omega arith in turn)
              ∙ ap (λ t. sum_below m (λ i. z i * b i) + t) (sym (sum_scale m (q * share) (λ i. z i * a i n)))
              ∙ sym (sum_add m (λ i. z i * b i) (λ i. q * share * (z i * a i n)))
              ∙ sum_equal m (λ i. z i * b i + q * share * (z i * a i n)) (λ i. z i * (b i + q * (share * a i n))) (λ i l. omega arith))
              ∙ s.one;
        }

-- each system over the residues of a prime is solvable or refuted
pub solvable_or_refuted : (p m n : ℕ) (a : ℕ → ℕ → ℕ) (b : ℕ → ℕ) → IsPrime p → ((x : ℕ → ℕ) × Solves p m n a b x) ⊎ ((y : ℕ → ℕ) × Refutes p m n a b y)
solvable_or_refuted p m zero a b prime = solvable_empty p m a b prime
solvable_or_refuted p m (suc n) a b prime =
    let q : ℕ = p - 1 in
    let two : 2 ≤ p = prime.two_or_more in
    let next : p ≡ suc q = omega arith in
    elim (solvable_or_refuted p m n a (λ i. a i n) prime) [
      | inl u ↦ elim (solvable_or_refuted p m n a b prime) [
        | inl x ↦ inl (extended n x.0 0, more_solved p m n a b prime x.0 x.1)
        | inr y ↦ inr (y.0, more_refuted p m n a b prime u.0 y.0 u.1 y.1)
      ]
      | inr y ↦ elim (solvable_or_refuted p m n a (side p m n a b prime q next y.0 y.1) prime) [
        | inl x ↦ inl (extended n x.0 (share p m n a b prime q next y.0 y.1), solved_by_share p m n a b prime q next y.0 y.1 x.0 x.1)
        | inr z ↦ inr (corrected p m n a b prime q next y.0 y.1 z.0, refuted_by_corrected p m n a b prime q next y.0 y.1 z.0 z.1)
      ]
    ]

-- the solution as a list of residues
solution_of : (p : ℕ) (A : Matrix) (b : List ℕ) (x : ℕ → ℕ) → 2 ≤ p → IsVector p A.height b → Solves p A.height A.width (entry A) (slice_index b) x →
    IsSolution p A b (list_of A.width (λ j. x j % p))
solution_of p A b x two v s =
    let xs : List ℕ = list_of A.width (λ j. x j % p) in (
      vector_of p A.width (λ j. x j % p) (λ j l. mod-lt (x j) (omega arith)),
      list_equal A.height (apply p A xs) b (length_list_of A.height _) v.len (λ i l.
          at_apply p A xs i l
          ∙ ap (λ t. t % p) (sum_equal A.width (λ j. entry A i j * slice_index xs j) (λ j. entry A i j * (x j % p)) (λ j k. ap (λ t. entry A i j * t) (at_list_of A.width (λ j. x j % p) j k)))
          ∙ sum_reduce_right p A.width (entry A i) x ∙ s.at i l ∙ mod-eq_of_lt (v.residues i l)),
    )

-- the refutation as a list of residues
refutation_of : (p : ℕ) (A : Matrix) (b : List ℕ) (y : ℕ → ℕ) → 2 ≤ p → Refutes p A.height A.width (entry A) (slice_index b) y →
    Annuls p A b 1 (list_of A.height (λ i. y i % p))
refutation_of p A b y two r =
    let ys : List ℕ = list_of A.height (λ i. y i % p) in
    let read : (f : ℕ → ℕ) → sum_below A.height (λ i. slice_index ys i * f i) % p ≡ sum_below A.height (λ i. y i * f i) % p = λ f.
    ap (λ t. t % p) (sum_equal A.height (λ i. slice_index ys i * f i) (λ i. y i % p * f i) (λ i k. ap (λ t. t * f i) (at_list_of A.height (λ i. y i % p) i k)))
    ∙ sum_reduce p A.height y f in (
      vector_of p A.height (λ i. y i % p) (λ i l. mod-lt (y i) (omega arith)),
      list_of_equal A.width _ (λ j. 0) (λ j l. read (λ i. entry A i j) ∙ r.annuls j l),
      read (slice_index b) ∙ r.one,
    )

-- what is refuted has no solution
pub refuted : (p : ℕ) (A : Matrix) (b x y : List ℕ) → 2 ≤ p → Annuls p A b 1 y → IsSolution p A b x → ⊥
refuted p A b x y two r s =
    let none : dot p A.width (combine p y A) x ≡ 0 =
    ap (λ u. dot p A.width u x) r.1
    ∙ sum_zero_same p A.width (λ j. slice_index (zeros A.width) j * slice_index x j)
    (λ j l. ap (λ t. t * slice_index x j % p) (at_zeros A.width j l) ∙ ap (λ t. t % p) (zero-mul (slice_index x j)) ∙ zero-mod p) in
    let one : dot p A.width (combine p y A) x ≡ 1 = dot_combine p y A x ∙ ap (λ u. dot p A.height y u) s.1 ∙ r.2 in
    omega arith

pub alternative_holds : Alternative
alternative_holds p A b prime m v = (
  λ none. elim (solvable_or_refuted p A.height A.width (entry A) (slice_index b) prime) [
    | inl x ↦ absurd (none _ (solution_of p A b x.0 prime.two_or_more v x.1))
    | inr y ↦ (list_of A.height (λ i. y.0 i % p), refutation_of p A b y.0 prime.two_or_more y.1)
  ],
  λ y x s. refuted p A b x y.0 prime.two_or_more y.1 s,
)
