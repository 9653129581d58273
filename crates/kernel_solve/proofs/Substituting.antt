-- Triangular systems by factors with pivots, whose unknowns are set one after another.
use Rattle.std.proofs.Common.{ℕ, suc, ◌≡◌, ◌≢◌, ◌+◌, ◌-◌, ◌*◌, ◌%◌, ◌<◌, ◌≤◌, inl, inr, List, [], ◌∷◌, ◌++◌, length, replicate, slice_index, slice_index_or, sym, refl, ap, ap₂, subst, ◌∙◌, arith, mul-zero, zero-mul, mul-one, one-mul, mod-eq_of_lt}
use native.Mathlib.Nat.{mod-mod, zero-mod}
use Rattle.std.proofs.Math.Nat.{mul-le-mul_left}
use Rattle.std.proofs.lemmas.Bool.{cases_eq}
use Rattle.std.proofs.lemmas.List.{get_or_append_left, get_or-map, get_or_push, get_or-replicate, length_push, length-replicate}
use Rattle.std.proofs.lemmas.Nat.{mul-mod_second}
use Rattle.residue_words.specs.declared.plain.Pair.{Pair}
use Rattle.residue_words.specs.Residues.{IsPrime, sum_below}
use Rattle.residue_words.specs.Matrix.{Matrix, IsMatrix, IsVector, apply, dot, entry, row}
use Rattle.residue_words.proofs.Residues.{add_same, minus_one, mul_same, multiple_zero, right_zero}
use Rattle.residue_words.specs.declared.modulus.TheConstants.{MODULUS_BOUND}
use Rattle.residue_words.proofs.Sums.{sum_more, sum_none, sum_add, sum_equal, sum_linear}
use Rattle.residue_words.proofs.Vectors.{apply_vector, at_apply, delta, delta_other, delta_same, dot_combine, entry_residue, length_list_of, list_equal, sum_delta}
use Rattle.sparse_rows.proofs.Loops.{sparse_dot}
use Rattle.row_space.specs.Factors.{AreFactors, col_at, row_at}
use Rattle.row_space.specs.Solution.{IsSolution}
use Rattle.row_space.proofs.Ends.{difference_zero}
use Rattle.row_space.proofs.KernelLaws.{dot_turned}
use Rattle.row_space.proofs.Triangular.{upper_zero}
use Rattle.kernel_solve.specs.Substituted.{InvertEach, IsLower, IsUpper, left_pivot, right_pivot}

-- a sum of products after one factor, which was 0, is set
sum_set : (n : ℕ) (a x y : ℕ → ℕ) (j : ℕ) → j < n → x j ≡ 0 → ((t : ℕ) → t ≢ j → y t ≡ x t) →
    sum_below n (λ t. a t * y t) ≡ sum_below n (λ t. a t * x t) + a j * y j
sum_set n a x y j l z same =
    sum_equal n (λ t. a t * y t) (λ t. a t * x t + delta j t * (a t * y t)) (λ t lt. elim (cases_eq t j) [
      | inl e ↦
          let none : a t * x t ≡ 0 = ap (λ v. a t * v) (ap x e ∙ z) ∙ mul-zero (a t) in
          let all : delta j t * (a t * y t) ≡ a t * y t = ap (λ v. v * (a t * y t)) (ap (delta j) e ∙ delta_same j) ∙ one-mul (a t * y t) in
          omega (arith, none, all)
      | inr d ↦
          let kept : a t * y t ≡ a t * x t = ap (λ v. a t * v) (same t d) in
          let none : delta j t * (a t * y t) ≡ 0 = ap (λ v. v * (a t * y t)) (delta_other j t d) ∙ zero-mul (a t * y t) in
          omega (arith, none, kept)
    ])
    ∙ sum_add n (λ t. a t * x t) (λ t. delta j t * (a t * y t))
    ∙ ap (λ s. sum_below n (λ t. a t * x t) + s) (sum_delta n j (λ t. a t * y t) l)

-- and where it meets a 0
sum_unset : (n : ℕ) (a x y : ℕ → ℕ) (j : ℕ) → a j ≡ 0 → ((t : ℕ) → t ≢ j → y t ≡ x t) → sum_below n (λ t. a t * y t) ≡ sum_below n (λ t. a t * x t)
sum_unset n a x y j z same = sum_equal n _ _ (λ t l. elim (cases_eq t j) [
  | inl e ↦
      let none : a t ≡ 0 = ap a e ∙ z in
      ap (λ v. v * y t) none ∙ zero-mul (y t) ∙ sym (ap (λ v. v * x t) none ∙ zero-mul (x t))
  | inr d ↦ ap (λ v. a t * v) (same t d)
])

-- the value that makes a sum what it should be
pub value_settles : (p d inverse sum product rest value b : ℕ) → 2 ≤ p → (d * inverse) % p ≡ 1 → product ≡ sum % p → product < p → b < p →
    rest ≡ (b + (p - product)) % p → value ≡ (rest * inverse) % p → (sum + d * value) % p ≡ b
value_settles p d inverse sum product rest value b two one is_product low small is_rest is_value =
    let turned : d * (rest * inverse) ≡ rest * (d * inverse) = omega arith in
    let scaled : (d * value) % p ≡ (b + (p - product)) % p =
    ap (λ v. d * v % p) is_value ∙ mul-mod_second d (rest * inverse) p ∙ ap (λ v. v % p) turned
    ∙ mul_same p rest rest (d * inverse) 1 refl (one ∙ sym (mod-eq_of_lt (let l : 1 < p = omega (arith, two) in l)))
    ∙ ap (λ v. v % p) (mul-one rest) ∙ ap (λ v. v % p) is_rest ∙ mod-mod (b + (p - product)) p in
    let whole : product + (b + (p - product)) ≡ b + p = omega (arith, low) in
    let none : p % p ≡ 0 = ap (λ v. v % p) (sym (one-mul p)) ∙ multiple_zero p 1 in
    add_same p sum product (d * value) (b + (p - product)) (sym (ap (λ v. v % p) is_product ∙ mod-mod sum p)) scaled
    ∙ ap (λ v. v % p) whole ∙ right_zero p b p none ∙ mod-eq_of_lt small

-- a row's product with a vector after one entry, which was 0, is set so; and where the row is 0 there
pub row_settled : (p n : ℕ) (v x y : List ℕ) (j inverse product rest b : ℕ) → 2 ≤ p → j < n → slice_index x j ≡ 0 → ((t : ℕ) → t ≢ j → slice_index y t ≡ slice_index x t) →
    (slice_index v j * inverse) % p ≡ 1 → product ≡ dot p n v x → product < p → b < p → rest ≡ (b + (p - product)) % p → slice_index y j ≡ (rest * inverse) % p → dot p n v y ≡ b
row_settled p n v x y j inverse product rest b two l z same one is_product low small is_rest is_value =
    ap (λ s. s % p) (sum_set n (slice_index v) (slice_index x) (slice_index y) j l z same)
    ∙ value_settles p (slice_index v j) inverse _ product rest (slice_index y j) b two one is_product low small is_rest is_value

pub row_kept : (p n : ℕ) (v x y : List ℕ) (j : ℕ) → slice_index v j ≡ 0 → ((t : ℕ) → t ≢ j → slice_index y t ≡ slice_index x t) → dot p n v y ≡ dot p n v x
row_kept p n v x y j z same = ap (λ s. s % p) (sum_unset n (slice_index v) (slice_index x) (slice_index y) j z same)

-- factors are triangular
module _ {p : ℕ} {A : Matrix} {pivots : List Pair} {L U : Matrix} (prime : IsPrime p) (f : AreFactors p A pivots L U) where
  pub is_lower : {inverses : List ℕ} → InvertEach p (length pivots) (left_pivot L pivots) inverses → IsLower p L pivots inverses
  is_lower each = record { diagonal = λ k l. each.inverse prime k l (f.left_pivot k l); after = f.left_after }

  pub is_upper : {inverses : List ℕ} → InvertEach p (length pivots) (right_pivot U pivots) inverses → IsUpper p U pivots inverses
  is_upper each = record { diagonal = λ k l. each.inverse prime k l (f.right_pivot k l); before = f.right_after }

-- z with L z = b at the pivots' rows, and x with U x = z: then A x = b, if this has a solution
module _ (p : ℕ) (A : Matrix) (pivots : List Pair) (L U : Matrix) (b z x : List ℕ) (prime : IsPrime p) (m : IsMatrix p A) (f : AreFactors p A pivots L U) (vb : IsVector p A.height b)
    (vz : IsVector p L.width z) (vx : IsVector p U.width x) (at_pivots : (k : ℕ) → k < length pivots → dot p L.width (row L (row_at pivots k)) z ≡ slice_index b (row_at pivots k))
    (above : (k : ℕ) → k < length pivots → dot p U.width (row U k) x ≡ slice_index z k) where
  two : 2 ≤ p
  two = prime.two_or_more

  many : U.height ≡ L.width
  many = f.fit.right_height ∙ sym f.fit.left_width

  -- A v is L (U v)
  through : (v : List ℕ) (i : ℕ) → i < A.height → slice_index (apply p A v) i ≡ dot p L.width (row L i) (apply p U v)
  through v i l =
      at_apply p A v i l ∙ ap (λ n. dot p n (row A i) v) (sym f.fit.right_width) ∙ ap (λ u. dot p U.width u v) (f.product i l) ∙ dot_combine p (row L i) U v
      ∙ ap (λ n. dot p n (row L i) (apply p U v)) many

  -- U x is z
  right_times : apply p U x ≡ z
  right_times = list_equal U.height _ z (length_list_of U.height _) (vz.len ∙ sym many) (λ k l.
      at_apply p U x k l ∙ above k (omega (arith, f.fit.right_height)))

  module _ (v : List ℕ) (s : IsSolution p A b v) where
    abbrev w : List ℕ
    w = apply p U v

    vw : IsVector p U.height w
    vw = apply_vector p U v (omega (arith, two))

    left_times : (i : ℕ) → i < A.height → dot p L.width (row L i) w ≡ slice_index b i
    left_times i l = sym (through v i l) ∙ ap (λ u. slice_index u i) s.1

    abbrev q : ℕ
    q = p - 1

    next : p ≡ suc q
    next = omega (arith, two)

    abbrev difference : ℕ → ℕ
    difference t = (1 * slice_index w t + q * slice_index z t) % p

    -- L takes the difference of w and z to 0 at the pivots' rows
    none : (k : ℕ) → k < L.width → sum_below L.width (λ t. difference t * entry L (row_at pivots k) t) % p ≡ 0
    none k l =
        let lk : k < length pivots = omega (arith, f.fit.left_width) in
        let i : ℕ = row_at pivots k in
        let c : ℕ = slice_index b i in
        let li : i < A.height = f.fit.rows_below k lk in
        let one_side : dot p L.width w (row L i) ≡ c = dot_turned p L.width w (row L i) ∙ left_times i li in
        let other : dot p L.width z (row L i) ≡ c = dot_turned p L.width z (row L i) ∙ at_pivots k lk in
        let turned : 1 * c + q * c ≡ q * c + c = omega arith in
        sum_linear p L.width 1 q (slice_index w) (slice_index z) (slice_index (row L i))
        ∙ ap₂ (λ s t. (1 * s + q * t) % p) one_side other ∙ ap (λ t. t % p) turned ∙ minus_one p q c next

    same : (k : ℕ) → k < L.width → slice_index w k ≡ slice_index z k
    same k l =
        let below : (k : ℕ) → k < L.width → k < length pivots = λ k l. omega (arith, f.fit.left_width) in
        difference_zero p q (slice_index w k) (slice_index z k) two next (vw.residues k (omega (arith, many))) (vz.residues k l)
        (sym (mod-mod (1 * slice_index w k + q * slice_index z k) p)
        ∙ upper_zero p L.width difference (λ t k. entry L (row_at pivots k) t) prime
        (λ k l e. f.left_pivot k (below k l) (sym (mod-eq_of_lt (entry_residue p L f.fit.left (row_at pivots k) k (omega (arith, f.fit.rows_below k (below k l), f.fit.left_height)) l)) ∙ e))
        none (λ k t less l. f.left_after k t less (below t l)) k l)

    w_is : w ≡ z
    w_is = list_equal L.width w z (vw.len ∙ many) vz.len same

    agree : (i : ℕ) → i < A.height → slice_index (apply p A x) i ≡ slice_index b i
    agree i l = through x i l ∙ ap (dot p L.width (row L i)) (right_times ∙ sym w_is) ∙ left_times i l

  pub factors_solve : (((v : List ℕ) → ¬ IsSolution p A b v) → ⊥) → IsSolution p A b x
  factors_solve solvable = (
    subst (λ n. IsVector p n x) f.fit.right_width vx,
    list_equal A.height (apply p A x) b (length_list_of A.height _) vb.len (λ i l. elim (cases_eq (slice_index (apply p A x) i) (slice_index b i)) [
      | inl e ↦ e
      | inr d ↦ absurd (solvable (λ v s. d (agree v s i l)))
    ]),
  )

-- the row and the column of a pivot, as code reads them
pub row_is : (pivots : List Pair) (k : ℕ) (d : Pair) → k < length pivots → row_at pivots k ≡ (slice_index_or pivots k d).row
row_is pivots k d l = get_or-map (λ (q : Pair). q.row) pivots k d 0 l

pub col_is : (pivots : List Pair) (k : ℕ) (d : Pair) → k < length pivots → col_at pivots k ≡ (slice_index_or pivots k d).col
col_is pivots k d l = get_or-map (λ (q : Pair). q.col) pivots k d 0 l

-- one product more, and how large a product of residues is
pub dot_more : (cs vs x : List ℕ) (n : ℕ) → sparse_dot cs vs x n + slice_index vs n * slice_index x (slice_index cs n) ≡ sparse_dot cs vs x (n + 1)
unfolding sparse_dot
dot_more cs vs x n = sym (sum_more n (λ t. slice_index vs t * slice_index x (slice_index cs t)))

pub dot_none : (cs vs x : List ℕ) → 0 ≡ sparse_dot cs vs x 0
unfolding sparse_dot
dot_none cs vs x = sym (sum_none _)

pub product_small : (v w : ℕ) → v < MODULUS_BOUND → w < MODULUS_BOUND → v * w ≤ 79228162514264337593543950336
product_small v w a b =
    let first : v * w ≤ v * 281474976710656 = mul-le-mul_left v (let l : w ≤ 281474976710656 = omega arith in l) in
    omega (arith, first)

-- zeros are residues
pub replicate_vector : (p n : ℕ) → 0 < p → IsVector p n (replicate n 0)
replicate_vector p n pos = record { len = length-replicate n 0; residues = λ j l. omega (arith, get_or-replicate {A = ℕ} n j 0 0 l) }

-- the first n unknowns of L z = b at the pivots' rows are set, and the others are 0
pub record IsForward (p : ℕ) (L : Matrix) (pivots : List Pair) (inverses b : List ℕ) (n : ℕ) (z : List ℕ) : Type 0 where
  pub vector : IsVector p L.width z
  pub zero : (t : ℕ) → n ≤ t → t < L.width → slice_index z t ≡ 0
  pub solves : IsLower p L pivots inverses → (k : ℕ) → k < n → dot p L.width (row L (row_at pivots k)) z ≡ slice_index b (row_at pivots k)

pub forward_none : {p : ℕ} {L : Matrix} {pivots : List Pair} {inverses b z : List ℕ} → 0 < p → z ≡ replicate L.width 0 → IsForward p L pivots inverses b 0 z
forward_none {p} {L} {pivots} {inverses} {b} {z} pos e = record {
  vector = subst (IsVector p L.width) (sym e) (replicate_vector p L.width pos);
  zero = λ t h l. ap (λ u. slice_index u t) e ∙ get_or-replicate L.width t 0 0 l;
  solves = λ lower k l. absurd (omega arith);
}

module _ {p : ℕ} {L : Matrix} {pivots : List Pair} {inverses b z next : List ℕ} {n : ℕ} (h : IsForward p L pivots inverses b n z) (wide : L.width ≡ length pivots) (l : n < length pivots)
    (vector : IsVector p L.width next) (others : (t : ℕ) → t ≢ n → slice_index next t ≡ slice_index z t)
    (settled : slice_index z n ≡ 0 → (entry L (row_at pivots n) n * slice_index inverses n) % p ≡ 1 → dot p L.width (row L (row_at pivots n)) next ≡ slice_index b (row_at pivots n)) where
  pub forward_more : IsForward p L pivots inverses b (n + 1) next
  forward_more = record {
    vector = vector;
    zero = λ t high below. others t (λ e. omega arith) ∙ h.zero t (omega arith) below;
    solves = λ lower k less. elim (cases_eq k n) [
      | inl e ↦ subst (λ k. dot p L.width (row L (row_at pivots k)) next ≡ slice_index b (row_at pivots k)) (sym e) (settled (h.zero n (omega arith) (omega (arith, wide))) (lower.diagonal n l))
      | inr d ↦ row_kept p L.width (row L (row_at pivots k)) z next n (lower.after k n (omega arith) l) others ∙ h.solves lower k (omega arith)
    ];
  }

-- the last n unknowns of U x = z are set, and the others at pivots' columns are 0
pub record IsBack (p : ℕ) (U : Matrix) (pivots : List Pair) (inverses z : List ℕ) (n : ℕ) (x : List ℕ) : Type 0 where
  pub vector : IsVector p U.width x
  pub zero : IsUpper p U pivots inverses → (k : ℕ) → k + n < length pivots → slice_index x (col_at pivots k) ≡ 0
  pub solves : IsUpper p U pivots inverses → (k : ℕ) → k < length pivots → length pivots ≤ k + n → dot p U.width (row U k) x ≡ slice_index z k

pub back_none : {p : ℕ} {U : Matrix} {pivots : List Pair} {inverses z x : List ℕ} → 0 < p → ((k : ℕ) → k < length pivots → col_at pivots k < U.width) → x ≡ replicate U.width 0 → IsBack p U pivots inverses z 0 x
back_none {p} {U} {pivots} {inverses} {z} {x} pos inside e = record {
  vector = subst (IsVector p U.width) (sym e) (replicate_vector p U.width pos);
  zero = λ upper k l. ap (λ u. slice_index u (col_at pivots k)) e ∙ get_or-replicate U.width (col_at pivots k) 0 0 (inside k (omega arith));
  solves = λ upper k l h. absurd (omega arith);
}

-- no two pivots of a triangular factor are in one column
columns_apart : {p : ℕ} {U : Matrix} {pivots : List Pair} {inverses : List ℕ} → 2 ≤ p → IsUpper p U pivots inverses → (k t : ℕ) → k < t → t < length pivots → col_at pivots k ≢ col_at pivots t
columns_apart {p} {U} {pivots} {inverses} two upper k t less l e =
    let none : right_pivot U pivots t ≡ 0 = ap (entry U t) (sym e) ∙ upper.before k t less l in
    let zero_product : (right_pivot U pivots t * slice_index inverses t) % p ≡ 0 = ap (λ v. v * slice_index inverses t % p) none ∙ ap (λ v. v % p) (zero-mul (slice_index inverses t)) ∙ zero-mod p in
    absurd (omega (arith, zero_product, upper.diagonal t l))

module _ {p : ℕ} {U : Matrix} {pivots : List Pair} {inverses z x next : List ℕ} {n : ℕ} (k : ℕ) (two : 2 ≤ p) (h : IsBack p U pivots inverses z n x) (place : k + n + 1 ≡ length pivots)
    (vector : IsVector p U.width next) (others : (t : ℕ) → t ≢ col_at pivots k → slice_index next t ≡ slice_index x t)
    (settled : slice_index x (col_at pivots k) ≡ 0 → (entry U k (col_at pivots k) * slice_index inverses k) % p ≡ 1 → dot p U.width (row U k) next ≡ slice_index z k) where
  pub back_more : IsBack p U pivots inverses z (n + 1) next
  back_more = record {
    vector = vector;
    zero = λ upper t less. others (col_at pivots t) (columns_apart two upper t k (omega (arith, place)) (omega (arith, place))) ∙ h.zero upper t (omega arith);
    solves = λ upper t below high. elim (cases_eq t k) [
      | inl e ↦ subst (λ t. dot p U.width (row U t) next ≡ slice_index z t) (sym e) (settled (h.zero upper k (omega (arith, place))) (upper.diagonal k (omega (arith, place))))
      | inr d ↦ row_kept p U.width (row U t) x next (col_at pivots k) (upper.before k t (omega (arith, place)) below) others ∙ h.solves upper t below (omega (arith, place))
    ];
  }

-- residues of which each is the inverse of a number
pub inverses_none : {p : ℕ} {d : ℕ → ℕ} {inverses : List ℕ} → inverses ≡ [] → InvertEach p 0 d inverses
inverses_none e = record { vector = record { len = ap length e; residues = λ j l. absurd (omega arith) }; inverse = λ prime k l. absurd (omega arith) }

pub inverses_more : {p n : ℕ} {d : ℕ → ℕ} {inverses next : List ℕ} → InvertEach p n d inverses → (i : ℕ) → next ≡ inverses ++ i ∷ [] → i < p → (IsPrime p → d n ≢ 0 → (d n * i) % p ≡ 1) → InvertEach p (n + 1) d next
inverses_more {p} {n} {d} {inverses} {next} h i e low inverts =
    let last : slice_index next n ≡ i = ap (λ u. slice_index u n) e ∙ get_or_push inverses i 0 n h.vector.len in
    let before : (k : ℕ) → k < n → slice_index next k ≡ slice_index inverses k = λ k l. ap (λ u. slice_index u k) e ∙ get_or_append_left inverses (i ∷ []) 0 k (omega (arith, h.vector.len)) in
    record {
      vector = record {
        len = ap length e ∙ length_push inverses i ∙ ap (λ n. n + 1) h.vector.len;
        residues = λ k l. elim (cases_eq k n) [
          | inl same ↦ omega (arith, ap (slice_index next) same, last)
          | inr o ↦ omega (arith, before k (omega arith), h.vector.residues k (omega arith))
        ];
      };
      inverse = λ prime k l nonzero. elim (cases_eq k n) [
        | inl same ↦ ap₂ (λ a b. a * b % p) (ap d same) (ap (slice_index next) same ∙ last) ∙ inverts prime (λ z. nonzero (ap d same ∙ z))
        | inr o ↦ ap (λ b. d k * b % p) (before k (omega arith)) ∙ h.inverse prime k (omega arith) nonzero
      ];
    }
