-- Finite sums of whole numbers, and the same modulo p.
use Rattle.std.proofs.Common.{ℕ, zero, suc, ◌≡◌, ◌≢◌, ◌+◌, ◌*◌, ◌%◌, ◌<◌, ◌≤◌, ◌⊎◌, inl, inr, sym, refl, ap, ap₂, ◌∙◌, arith, add-one}
use native.Mathlib.Nat.{zero-mod}
use Rattle.std.proofs.lemmas.Bool.{cases_lt, cases_eq}
use Rattle.residue_words.specs.Residues.{sum_below}
use Rattle.residue_words.proofs.Residues.{add_same, mul_same}
use Rattle.std.proofs.lemmas.Nat.{mul-mod_first, mul-mod_second}

-- the empty sum
pub sum_none : (f : ℕ → ℕ) → sum_below 0 f ≡ 0
unfolding sum_below
sum_none f = refl

-- one term more
pub sum_more : (n : ℕ) (f : ℕ → ℕ) → sum_below (n + 1) f ≡ sum_below n f + f n
unfolding sum_below
sum_more n f = rw (add-one n)

-- sums of equal terms are equal
pub sum_equal : (n : ℕ) (f g : ℕ → ℕ) → ((i : ℕ) → i < n → f i ≡ g i) → sum_below n f ≡ sum_below n g
unfolding sum_below
sum_equal zero f g h = refl
sum_equal (suc n) f g h = omega (arith, sum_equal n f g (λ i l. h i (omega arith)), h n (omega arith))

-- sums of congruent terms are congruent
pub sum_same : (p n : ℕ) (f g : ℕ → ℕ) → ((i : ℕ) → i < n → f i % p ≡ g i % p) → sum_below n f % p ≡ sum_below n g % p
unfolding sum_below
sum_same p zero f g h = refl
sum_same p (suc n) f g h = add_same p (sum_below n f) (sum_below n g) (f n) (g n) (sum_same p n f g (λ i l. h i (omega arith))) (h n (omega arith))

-- a sum of zeros
pub sum_zero : (n : ℕ) (f : ℕ → ℕ) → ((i : ℕ) → i < n → f i ≡ 0) → sum_below n f ≡ 0
unfolding sum_below
sum_zero zero f h = refl
sum_zero (suc n) f h = omega (arith, sum_zero n f (λ i l. h i (omega arith)), h n (omega arith))

-- a sum of multiples of p
pub sum_zero_same : (p n : ℕ) (f : ℕ → ℕ) → ((i : ℕ) → i < n → f i % p ≡ 0) → sum_below n f % p ≡ 0
sum_zero_same p n f h = sum_same p n f (λ i. 0) (λ i l. h i l ∙ sym (zero-mod p)) ∙ ap (λ x. x % p) (sum_zero n (λ i. 0) (λ i l. refl)) ∙ zero-mod p

-- a sum with one nonzero term is this term
pub sum_single : (n : ℕ) (f : ℕ → ℕ) (k : ℕ) → k < n → ((i : ℕ) → i < n → i ≢ k → f i ≡ 0) → sum_below n f ≡ f k
unfolding sum_below
sum_single zero f k l h = absurd (omega arith)
sum_single (suc n) f k l h =
    elim (cases_eq k n) [
      | inl e ↦ omega (arith, sum_zero n f (λ i s. h i (omega arith) (λ same. omega arith)), ap f e)
      | inr d ↦ omega (arith, sum_single n f k (omega arith) (λ i s. h i (omega arith)), h n (omega arith) (λ same. d (sym same)))
    ]

-- a sum that is not 0 has a term that is not
pub sum_has : (n : ℕ) (f : ℕ → ℕ) → sum_below n f ≢ 0 → (i : ℕ) × (i < n) × (f i ≢ 0)
unfolding sum_below
sum_has zero f h = absurd (h refl)
sum_has (suc n) f h =
    elim (cases_eq (f n) 0) [
      | inl z ↦ let r = sum_has n f (λ e. h (omega arith)) in (r.0, omega arith, r.2)
      | inr d ↦ (n, omega arith, d)
    ]

-- sums add term by term
pub sum_add : (n : ℕ) (f g : ℕ → ℕ) → sum_below n (λ i. f i + g i) ≡ sum_below n f + sum_below n g
unfolding sum_below
sum_add zero f g = refl
sum_add (suc n) f g = omega (arith, sum_add n f g)

-- a factor of every term is a factor of the sum
pub sum_scale : (n c : ℕ) (f : ℕ → ℕ) → sum_below n (λ i. c * f i) ≡ c * sum_below n f
unfolding sum_below
sum_scale zero c f = omega arith
sum_scale (suc n) c f = omega (arith, sum_scale n c f)

-- the same, with the factor to the right
pub sum_scale_right : (n c : ℕ) (f : ℕ → ℕ) → sum_below n (λ i. f i * c) ≡ sum_below n f * c
unfolding sum_below
sum_scale_right zero c f = omega arith
sum_scale_right (suc n) c f = omega (arith, sum_scale_right n c f)

-- a double sum may be taken in either order
pub sum_swap : (n m : ℕ) (f : ℕ → ℕ → ℕ) → sum_below n (λ i. sum_below m (f i)) ≡ sum_below m (λ j. sum_below n (λ i. f i j))
unfolding sum_below
sum_swap zero m f = sym (sum_zero m (λ j. 0) (λ j l. refl))
sum_swap (suc n) m f = omega (arith, sum_swap n m f, sum_add m (λ j. sum_below n (λ i. f i j)) (f n))

-- y (a x) is (y a) x, before the remainder is taken
pub sum_pair : (n m : ℕ) (y : ℕ → ℕ) (a : ℕ → ℕ → ℕ) (x : ℕ → ℕ) →
    sum_below n (λ i. y i * sum_below m (λ j. a i j * x j)) ≡ sum_below m (λ j. sum_below n (λ i. y i * a i j) * x j)
sum_pair n m y a x =
    sum_equal n (λ i. y i * sum_below m (λ j. a i j * x j)) (λ i. sum_below m (λ j. y i * (a i j * x j))) (λ i l. sym (sum_scale m (y i) (λ j. a i j * x j)))
    ∙ sum_swap n m (λ i j. y i * (a i j * x j))
    ∙ sum_equal m (λ j. sum_below n (λ i. y i * (a i j * x j))) (λ j. sum_below n (λ i. y i * a i j) * x j)
    (λ j l. sum_equal n (λ i. y i * (a i j * x j)) (λ i. y i * a i j * x j) (λ i k. omega arith) ∙ sum_scale_right n (x j) (λ i. y i * a i j))

-- terms that are 0 at the end may be left out
pub sum_front : (n m : ℕ) (f : ℕ → ℕ) → m ≤ n → ((j : ℕ) → m ≤ j → j < n → f j ≡ 0) → sum_below n f ≡ sum_below m f
unfolding sum_below
sum_front zero m f l h = let same : zero ≡ m = omega arith in ap (λ k. sum_below k f) same
sum_front (suc n) m f l h =
    elim (cases_lt n m) [
      | inl e ↦ ap (λ k. sum_below k f) (let same : suc n ≡ m = omega arith in same)
      | inr e ↦ omega (arith, sum_front n m f e (λ j a b. h j a (omega arith)), h n e (omega arith))
    ]

-- a sum in two parts
pub sum_split : (m n : ℕ) (f : ℕ → ℕ) → sum_below (m + n) f ≡ sum_below m f + sum_below n (λ k. f (m + k))
unfolding sum_below
sum_split m zero f = let same : m + zero ≡ m = omega arith in omega (arith, ap (λ k. sum_below k f) same)
sum_split m (suc n) f = let same : m + suc n ≡ suc (m + n) = omega arith in omega (arith, ap (λ k. sum_below k f) same, sum_split m n f)

-- a sum whose terms are 0 but at the rising places `at 0`, .., `at (m - 1)`: the sum over these places
pub sum_support : (n m : ℕ) (f at : ℕ → ℕ) → ((k : ℕ) → k < m → at k < n) → ((k t : ℕ) → k < t → t < m → at k < at t) →
    ((j : ℕ) → j < n → (f j ≡ 0) ⊎ ((k : ℕ) × (k < m) × (at k ≡ j))) → sum_below n f ≡ sum_below m (λ k. f (at k))
unfolding sum_below
sum_support n zero f at inside rising cover = sum_zero n f (λ j l. elim (cover j l) [ inl z ↦ z | inr w ↦ absurd (omega (arith, w.1)) ])
sum_support n (suc m) f at inside rising cover =
    let last : at m < n = inside m (omega arith) in
    let beyond : (k j : ℕ) → k < suc m → at k ≡ j → at m < j → ⊥ = λ k j l e past.
    elim (cases_eq k m) [ inl same ↦ omega (arith, ap at same) | inr d ↦ omega (arith, rising k m (omega arith) (omega arith)) ] in
    let front : sum_below n f ≡ sum_below (suc (at m)) f =
    sum_front n (suc (at m)) f last (λ j a b. elim (cover j b) [ inl z ↦ z | inr w ↦ absurd (beyond w.0 j w.1 w.2 a) ]) in
    let less : sum_below (at m) f ≡ sum_below m (λ k. f (at k)) =
    sum_support (at m) m f at (λ k l. rising k m l (omega arith)) (λ k t a b. rising k t a (omega arith))
    (λ j l. elim (cover j (omega arith)) [
      | inl z ↦ inl z
      | inr w ↦ elim (cases_eq w.0 m) [ inl same ↦ absurd (omega (arith, ap at same, w.2)) | inr d ↦ inr (w.0, omega (arith, w.1), w.2) ]
    ]) in
    omega arith

-- a bound of every term bounds the sum
pub sum_bound : (n b : ℕ) (f : ℕ → ℕ) → ((i : ℕ) → i < n → f i ≤ b) → sum_below n f ≤ n * b
unfolding sum_below
sum_bound zero b f h = omega arith
sum_bound (suc n) b f h = omega (arith, sum_bound n b f (λ i l. h i (omega arith)), h n (omega arith))

-- a sum with one smaller term is smaller
pub sum_less : (n s : ℕ) (f g : ℕ → ℕ) → s < n → ((i : ℕ) → i < n → i ≢ s → g i ≡ f i) → g s < f s → sum_below n g < sum_below n f
unfolding sum_below
sum_less zero s f g l h d = absurd (omega arith)
sum_less (suc n) s f g l h d = elim (cases_eq s n) [
  | inl q ↦ omega (arith, sum_equal n g f (λ i b. h i (omega arith) (λ e. omega arith)), ap f q, ap g q)
  | inr o ↦ omega (arith, sum_less n s f g (omega arith) (λ i b. h i (omega arith)) d, h n (omega arith) (λ e. o (sym e)))
]

-- the coefficients of a sum may be replaced by their residues
pub sum_reduce : (p n : ℕ) (f g : ℕ → ℕ) → sum_below n (λ k. f k % p * g k) % p ≡ sum_below n (λ k. f k * g k) % p
sum_reduce p n f g = sum_same p n (λ k. f k % p * g k) (λ k. f k * g k) (λ k l. mul-mod_first (f k) (g k) p)

-- the other factors too
pub sum_reduce_right : (p n : ℕ) (f g : ℕ → ℕ) → sum_below n (λ k. f k * (g k % p)) % p ≡ sum_below n (λ k. f k * g k) % p
sum_reduce_right p n f g = sum_same p n (λ k. f k * (g k % p)) (λ k. f k * g k) (λ k l. mul-mod_second (f k) (g k) p)

-- a combination of values that are themselves combinations of `e 0`, .., `e (r - 1)`
pub sum_through : (p m r : ℕ) (y a : ℕ → ℕ) (q : ℕ → ℕ → ℕ) (e : ℕ → ℕ) → ((i : ℕ) → i < m → a i % p ≡ sum_below r (λ k. q i k * e k) % p) →
    sum_below m (λ i. y i * a i) % p ≡ sum_below r (λ k. sum_below m (λ i. y i * q i k) * e k) % p
sum_through p m r y a q e h =
    sum_same p m (λ i. y i * a i) (λ i. y i * sum_below r (λ k. q i k * e k)) (λ i l. mul_same p (y i) (y i) (a i) (sum_below r (λ k. q i k * e k)) refl (h i l))
    ∙ ap (λ x. x % p) (sum_pair m r y q e)

-- a sum is linear in its coefficients
pub sum_linear : (p n c d : ℕ) (f g a : ℕ → ℕ) →
    sum_below n (λ i. (c * f i + d * g i) % p * a i) % p ≡ (c * (sum_below n (λ i. f i * a i) % p) + d * (sum_below n (λ i. g i * a i) % p)) % p
sum_linear p n c d f g a =
    let parts : sum_below n (λ i. (c * f i + d * g i) * a i) ≡ c * sum_below n (λ i. f i * a i) + d * sum_below n (λ i. g i * a i) =
    sum_equal n (λ i. (c * f i + d * g i) * a i) (λ i. c * (f i * a i) + d * (g i * a i)) (λ i l. omega arith)
    ∙ sum_add n (λ i. c * (f i * a i)) (λ i. d * (g i * a i))
    ∙ ap₂ (λ x y. x + y) (sum_scale n c (λ i. f i * a i)) (sum_scale n d (λ i. g i * a i)) in
    sum_reduce p n (λ i. c * f i + d * g i) a ∙ ap (λ x. x % p) parts
    ∙ sym (add_same p (c * (sum_below n (λ i. f i * a i) % p)) (c * sum_below n (λ i. f i * a i)) (d * (sum_below n (λ i. g i * a i) % p)) (d * sum_below n (λ i. g i * a i))
    (mul-mod_second c (sum_below n (λ i. f i * a i)) p) (mul-mod_second d (sum_below n (λ i. g i * a i)) p))
