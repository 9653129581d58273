-- Lists of n residues are the numbers below p ^ n, so independent rows are no more than those that span them.
use Rattle.std.proofs.Common.{ℕ, zero, suc, ◌≡◌, ◌≢◌, ◌+◌, ◌*◌, ◌-◌, ◌/◌, ◌%◌, ◌^◌, ◌<◌, ◌≤◌, ◌⊎◌, inl, inr, cond, eqb, List, [], ◌∷◌, slice_index, sym, refl, ap, ap₂, ◌∙◌, arith, mod-lt, eq-eqb, ne_eqb, pow-suc, mul-le-mul_left, suc-le-suc, le_antisymm}
use native.Mathlib.Nat.{one-le-pow, pow-le-pow_right, div-add-mod', pow-zero}
use Rattle.std.proofs.lemmas.Bool.{cases_eq, cases_lt, cond-true, cond-false}
use Rattle.std.proofs.lemmas.Nat.{same_from_place, mul-add-lt, div_below}
use Rattle.residue_words.specs.Matrix.{Matrix, IsVector, IsCombination, combine, zeros}
use Rattle.residue_words.proofs.Vectors.{mix, at_mix, at_zeros, mix_vector, combine_linear, vector_equal}
use Rattle.row_space.specs.Echelon.{IsIndependent}
use Rattle.row_space.specs.Laws.{SpanFixesHeight}
use Rattle.row_space.proofs.Ends.{difference_self, difference_zero}

-- t, but v in place of m
moved : ℕ → ℕ → ℕ → ℕ
moved m v t = cond (eqb t m) v t

moved_at : (m v t : ℕ) → t ≡ m → moved m v t ≡ v
unfolding moved
moved_at m v t e = cond-true (eqb t m) v t (eq-eqb t m e)

moved_off : (m v t : ℕ) → t ≢ m → moved m v t ≡ t
unfolding moved
moved_off m v t d = cond-false (eqb t m) v t (ne_eqb t m d)

-- it is one to one away from v
moved_apart : (m v a b : ℕ) → a ≢ v → b ≢ v → moved m v a ≡ moved m v b → a ≡ b
moved_apart m v a b na nb same =
    elim (cases_eq a m) [
      | inl e ↦ elim (cases_eq b m) [
        | inl g ↦ e ∙ sym g
        | inr d ↦ absurd (nb (sym (moved_off m v b d) ∙ sym same ∙ moved_at m v a e))
      ]
      | inr c ↦ elim (cases_eq b m) [
        | inl g ↦ absurd (na (sym (moved_off m v a c) ∙ same ∙ moved_at m v b g))
        | inr d ↦ sym (moved_off m v a c) ∙ same ∙ moved_off m v b d
      ]
    ]

-- no map of n numbers to fewer is one to one
pub pigeonhole : (n m : ℕ) (f : ℕ → ℕ) → ((x : ℕ) → x < n → f x < m) → ((x y : ℕ) → x < n → y < n → f x ≡ f y → x ≡ y) → n ≤ m
pigeonhole zero m f small one = omega arith
pigeonhole (suc n) zero f small one = absurd (omega (arith, small n (omega arith)))
pigeonhole (suc n) (suc m) f small one =
    let v : ℕ = f n in
    let top : v < suc m = small n (omega arith) in
    let apart : (x : ℕ) → x < n → f x ≢ v = λ x l e. omega (arith, one x n (omega arith) (omega arith) e) in
    suc-le-suc (pigeonhole n m (λ x. moved m v (f x))
    (λ x l. elim (cases_eq (f x) m) [
      | inl e ↦ omega (arith, moved_at m v (f x) e, apart x l)
      | inr d ↦ omega (arith, moved_off m v (f x) d, small x (omega arith))
    ])
    (λ x y lx ly same. one x y (omega arith) (omega arith) (moved_apart m v (f x) (f y) (apart x lx) (apart y ly) same)))

-- the digits of x to the base p, and the number of a list of digits
abbrev digits : ℕ → ℕ → ℕ → List ℕ
digits p zero x = []
digits p (suc n) x = x % p ∷ digits p n (x / p)

abbrev number : ℕ → List ℕ → ℕ
number p [] = 0
number p (d ∷ ds) = number p ds * p + d

digits_vector : (p n x : ℕ) → 0 < p → IsVector p n (digits p n x)
digits_vector p zero x pos = record { len = refl; residues = λ j l. absurd (omega arith) }
digits_vector p (suc n) x pos =
    let rest : IsVector p n (digits p n (x / p)) = digits_vector p n (x / p) pos in
    record { len = ap suc rest.len; residues = each rest }
  where
    each : IsVector p n (digits p n (x / p)) → (j : ℕ) → j < suc n → slice_index (x % p ∷ digits p n (x / p)) j < p
    each rest zero l = mod-lt x pos
    each rest (suc j) l = rest.residues j (omega arith)

number_digits : (p n x : ℕ) → 0 < p → x < p ^ n → number p (digits p n x) ≡ x
number_digits p zero x pos l = omega (arith, pow-zero p)
number_digits p (suc n) x pos l =
    let below : x / p < p ^ n = div_below x p (p ^ n) pos (omega (arith, pow-suc p n)) in
    ap (λ t. t * p + x % p) (number_digits p n (x / p) pos below) ∙ div-add-mod' x p

-- what is left of a vector without its head
tail_vector : (p n d : ℕ) (ds : List ℕ) → IsVector p (suc n) (d ∷ ds) → IsVector p n ds
tail_vector p n d ds v = record { len = let e = v.len in omega arith; residues = λ j l. v.residues (suc j) (omega arith) }

number_below : (p n : ℕ) (l : List ℕ) → IsVector p n l → number p l < p ^ n
number_below p zero [] v = omega (arith, pow-zero p)
number_below p zero (d ∷ ds) v = absurd (let e = v.len in omega arith)
number_below p (suc n) [] v = absurd (let e = v.len in omega arith)
number_below p (suc n) (d ∷ ds) v =
    omega (arith, mul-add-lt (number p ds) p d (p ^ n) (number_below p n ds (tail_vector p n d ds v)) (v.residues 0 (omega arith)), pow-suc p n)

number_apart : (p n : ℕ) (u v : List ℕ) → IsVector p n u → IsVector p n v → number p u ≡ number p v → u ≡ v
number_apart p zero [] [] a b e = refl
number_apart p zero (d ∷ ds) v a b e = absurd (let e = a.len in omega arith)
number_apart p zero [] (c ∷ cs) a b e = absurd (let e = b.len in omega arith)
number_apart p (suc n) [] v a b e = absurd (let e = a.len in omega arith)
number_apart p (suc n) (d ∷ ds) [] a b e = absurd (let e = b.len in omega arith)
number_apart p (suc n) (d ∷ ds) (c ∷ cs) a b e =
    let parts = same_from_place (number p ds) d (number p cs) c p (a.residues 0 (omega arith)) (b.residues 0 (omega arith)) e in
    ap₂ (λ x xs. x ∷ xs) parts.1 (number_apart p n ds cs (tail_vector p n d ds a) (tail_vector p n c cs b) parts.0)

-- powers of 2 or more rise
power_order : (p a b : ℕ) → 2 ≤ p → p ^ a ≤ p ^ b → a ≤ b
power_order p a b two l =
    let pos : 0 < p = omega arith in
    elim (cases_lt b a) [
      | inr le ↦ le
      | inl less ↦
          let up : p ^ suc b ≤ p ^ a = pow-le-pow_right pos less in
          let some : 1 ≤ p ^ b = one-le-pow b p pos in
          let twice : p ^ b * 2 ≤ p ^ b * p = mul-le-mul_left (p ^ b) two in
          absurd (omega (arith, pow-suc p b))
    ]

-- combinations of independent rows differ
pub independent_apart : (p : ℕ) (A : Matrix) (y z : List ℕ) → 2 ≤ p → IsIndependent p A → IsVector p A.height y → IsVector p A.height z →
    combine p y A ≡ combine p z A → y ≡ z
independent_apart p A y z two free vy vz same =
    let q : ℕ = p - 1 in
    let next : p ≡ suc q = omega arith in
    let none : mix p A.height 1 q y z ≡ zeros A.height = free (mix p A.height 1 q y z) (mix_vector p A.height 1 q y z (omega arith))
    (combine_linear p 1 q y z A ∙ ap (λ u. mix p A.width 1 q u (combine p z A)) same ∙ difference_self p q A.width (combine p z A) next) in
    vector_equal p A.height y z vy vz (λ j l.
    difference_zero p q (slice_index y j) (slice_index z j) two next (vy.residues j l) (vz.residues j l)
    (sym (at_mix p A.height 1 q y z j l) ∙ ap (λ u. slice_index u j) none ∙ at_zeros A.height j l))

-- whether a map of n numbers hits k
hits : (n k : ℕ) (f : ℕ → ℕ) → ((x : ℕ) × (x < n) × (f x ≡ k)) ⊎ ((x : ℕ) → x < n → f x ≢ k)
hits zero k f = inr (λ x l. absurd (omega arith))
hits (suc n) k f =
    elim (cases_eq (f n) k) [
      | inl e ↦ inl (n, omega arith, e)
      | inr d ↦ elim (hits n k f) [
        | inl w ↦ inl (w.0, omega (arith, w.1), w.2)
        | inr none ↦ inr (λ x l. elim (cases_eq x n) [ inl e ↦ λ same. d (ap f (sym e) ∙ same) | inr c ↦ none x (omega arith) ])
      ]
    ]

-- a one to one map of n numbers to no more than n numbers hits each of them
pub onto : (n m : ℕ) (f : ℕ → ℕ) → m ≤ n → ((x : ℕ) → x < n → f x < m) → ((x y : ℕ) → x < n → y < n → f x ≡ f y → x ≡ y) →
    (k : ℕ) → k < m → (x : ℕ) × (x < n) × (f x ≡ k)
onto n zero f le small one k l = absurd (omega arith)
onto n (suc m) f le small one k l =
    elim (hits n k f) [
      | inl w ↦ w
      | inr none ↦
          let fewer : n ≤ m = pigeonhole n m (λ x. moved m k (f x))
          (λ x o. elim (cases_eq (f x) m) [
            | inl e ↦ omega (arith, moved_at m k (f x) e, none x o)
            | inr d ↦ omega (arith, moved_off m k (f x) d, small x o)
          ])
          (λ x y lx ly same. one x y lx ly (moved_apart m k (f x) (f y) (none x lx) (none y ly) same)) in
          absurd (omega arith)
    ]

module _ (p : ℕ) (A B : Matrix) (two : 2 ≤ p) (free : IsIndependent p A) (within : (v : List ℕ) → IsCombination p A v → IsCombination p B v) where
  -- the coefficients in B of the combination of A with the digits of x, and their number
  image : (x : ℕ) → IsCombination p B (combine p (digits p A.height x) A)
  image x = within (combine p (digits p A.height x) A) (digits p A.height x, digits_vector p A.height x (omega arith), refl)

  image_number : ℕ → ℕ
  image_number x = number p (image x).0

  image_below : (x : ℕ) → image_number x < p ^ B.height
  unfolding image_number
  image_below x = number_below p B.height (image x).0 (image x).1

  image_apart : (w x : ℕ) → w < p ^ A.height → x < p ^ A.height → image_number w ≡ image_number x → w ≡ x
  unfolding image_number
  image_apart w x lw lx same =
      let pos : 0 < p = omega arith in
      let y : ℕ → List ℕ = digits p A.height in
      let coefficients : (image w).0 ≡ (image x).0 = number_apart p B.height (image w).0 (image x).0 (image w).1 (image x).1 same in
      let values : combine p (y w) A ≡ combine p (y x) A = (image w).2 ∙ ap (λ u. combine p u B) coefficients ∙ sym (image x).2 in
      let equal : y w ≡ y x = independent_apart p A (y w) (y x) two free (digits_vector p A.height w pos) (digits_vector p A.height x pos) values in
      sym (number_digits p A.height w pos lw) ∙ ap (number p) equal ∙ number_digits p A.height x pos lx

  -- independent rows in a row space are no more than the rows that span it
  pub independent_height : A.height ≤ B.height
  independent_height = power_order p A.height B.height two (pigeonhole (p ^ A.height) (p ^ B.height) image_number (λ x l. image_below x) image_apart)

  -- independent rows in a row space span it where they are no fewer than the rows that do
  pub spanned_back : B.height ≤ A.height → (v : List ℕ) → IsCombination p B v → IsCombination p A v
  unfolding image_number
  spanned_back le v c =
      let pos : 0 < p = omega arith in
      let hit = onto (p ^ A.height) (p ^ B.height) image_number (pow-le-pow_right pos le) (λ x l. image_below x) image_apart (number p c.0) (number_below p B.height c.0 c.1) in
      let x : ℕ = hit.0 in
      let same : (image x).0 ≡ c.0 = number_apart p B.height (image x).0 c.0 (image x).1 c.1 hit.2 in
      (digits p A.height x, digits_vector p A.height x pos, c.2 ∙ ap (λ u. combine p u B) (sym same) ∙ sym (image x).2)

pub span_height : SpanFixesHeight
span_height p A B two ma mb width fa fb s =
    le_antisymm (independent_height p A B two fa (λ v. (s v).0)) (independent_height p B A two fb (λ v. (s v).1))
