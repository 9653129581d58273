-- Sums of products, split and made residues, and a coefficient in all lanes.
use Rattle.std.proofs.Common.{ℕ, List, ◌∷◌, ◌≡◌, ◌+◌, ◌-◌, ◌*◌, ◌/◌, ◌%◌, ◌^◌, ◌<◌, ◌≤◌, zero, suc, div-add-mod', div-lt_iff_lt-mul, pow-add, pow-suc, inl, inr, length, length-set, replicate, slice_index, slice_index_or, slice_set, subst, sym, refl, ap, ◌∙◌, arith}
use Rattle.std.specs.Simd.Lanes.{digits_l, number_l, put_chunk, zip2}
use Rattle.std.proofs.lemmas.Simd.{get_or-put_chunk_above, get_or-put_chunk_at, get_or-put_chunk_below, length-put_chunk}
use Rattle.std.proofs.Math.Nat.{mul_comm}
use Rattle.std.proofs.lemmas.Bool.{cases_eq}
use Rattle.std.proofs.lemmas.List.{get_or-set_other, get_or-set_same}
use Rattle.std.proofs.lemmas.Nat.{mul-mod_first}
use native.Mathlib.Nat.{mod-mod, pow-zero}
use Rattle.residue_words.specs.Residues.{sum_below}
use Rattle.residue_words.proofs.Residues.{add_same}
use Rattle.residue_words.proofs.Sums.{sum_equal, sum_more, sum_none, sum_split}
use Rattle.dense_rows.specs.Rows.{block_row, entry_of}
use Rattle.dense_rows.specs.Products.{AreSmall, IsWritten, columns_of, products, products_of, run_of}
use Rattle.dense_rows.specs.declared.products.Run.{Run}
use Rattle.dense_rows.proofs.BlockRows.{read_row}
use Rattle.dense_rows.proofs.Vectors.{highs, raised}

-- the residue of x and s, by the halves of s
pub folded : (p x s y z : ℕ) → y ≡ (x + 1 * (s % 4294967296)) % p → z ≡ (y + 4294967296 % p * (s / 4294967296)) % p → z ≡ (x + s) % p
folded p x s y z low high =
    let whole : x + 1 * (s % 4294967296) + 4294967296 * (s / 4294967296) ≡ x + s = omega arith in
    high ∙ add_same p y (x + 1 * (s % 4294967296)) (4294967296 % p * (s / 4294967296)) (4294967296 * (s / 4294967296))
    (ap (λ t. t % p) low ∙ twice p (x + 1 * (s % 4294967296))) (mul-mod_first 4294967296 (s / 4294967296) p) ∙ ap (λ t. t % p) whole
  where
    twice : (p a : ℕ) → a % p % p ≡ a % p
    twice p a = mod-mod a p

-- one column more
pub written_one : (start j : ℕ) (v old mid : List ℕ) (u : ℕ) → j < length old → IsWritten (columns_of start j) v old mid → start ≤ j → u ≡ slice_index v (j - start) →
    IsWritten (columns_of start (j + 1)) v old (slice_set mid j u)
written_one start j v old mid u inside h order is = record {
  long = length-set mid j u ∙ h.long;
  written = λ x from l. elim (cases_eq x j) [
    | inl e ↦ ap (slice_index (slice_set mid j u)) e ∙ get_or-set_same mid j u 0 (omega (arith, h.long)) ∙ is ∙ ap (λ t. slice_index v (t - start)) (sym e)
    | inr d ↦ get_or-set_other mid j x u 0 d ∙ h.written x from (omega arith)
  ];
  before = λ x l. get_or-set_other mid j x u 0 (omega arith) ∙ h.before x l;
  behind = λ x l. get_or-set_other mid j x u 0 (omega arith) ∙ h.behind x (omega arith);
}

-- no product, and one more
pub products_none : (c : List ℕ) (rows : List (List ℕ)) (s j : ℕ) → products c rows (run_of s 0) j ≡ 0
products_none c rows s j = sum_none (λ i. slice_index c (s + i) * entry_of rows (s + i) j)

pub products_more : (c : List ℕ) (rows : List (List ℕ)) (s n j : ℕ) → products c rows (run_of s (n + 1)) j ≡ products c rows (run_of s n) j + slice_index c (s + n) * entry_of rows (s + n) j
products_more c rows s n j = sum_more n (λ i. slice_index c (s + i) * entry_of rows (s + i) j)

-- fewer products make no larger sum
products_front : (c : List ℕ) (rows : List (List ℕ)) (s n m j : ℕ) → n ≤ m → products c rows (run_of s n) j ≤ products c rows (run_of s m) j
products_front c rows s n m j le =
    let f : ℕ → ℕ = λ i. slice_index c (s + i) * entry_of rows (s + i) j in
    let whole : n + (m - n) ≡ m = omega arith in
    omega (arith, sum_split n (m - n) f, ap (λ t. sum_below t f) whole)

-- a product more in each of a row's sums at the columns of a tile, whose row stands in the lanes
module _ (by tile : List (List ℕ)) (run : Run) (small : AreSmall by tile run) (i t : ℕ) (sums lanes default : List ℕ) (inside : i < run.count) (row : t < 32)
    (sum : (k : ℕ) → k < 8 → slice_index sums k ≡ products_of by tile (run_of run.first i) t k)
    (lane : (k : ℕ) → k < 8 → slice_index lanes k ≡ slice_index (slice_index_or tile (run.first + i) default) k) where
  sum_then : (k : ℕ) → k < 8 → slice_index sums k + slice_index lanes k * entry_of by t (run.first + i) ≡ products_of by tile (run_of run.first (i + 1)) t k
  sum_then k l =
      let c : ℕ = entry_of by t (run.first + i) in
      let entry : slice_index lanes k ≡ entry_of tile (run.first + i) k =
      lane k l ∙ ap (λ v. slice_index v k) (read_row tile (run.first + i) default (omega (arith, small.inside, small.long))) in
      let product : slice_index lanes k * c ≡ c * entry_of tile (run.first + i) k = ap (λ y. y * c) entry ∙ mul_comm (entry_of tile (run.first + i) k) c in
      (λ x. sum k l x + product x) ∙ sym (products_more (block_row by t) tile run.first i k)

  pub sums_small : (k : ℕ) → k < 8 → slice_index sums k + slice_index lanes k * entry_of by t (run.first + i) < 18446744073709551616
  sums_small k l = omega (arith, sum_then k l, products_front (block_row by t) tile run.first (i + 1) run.count k (omega arith), small.sums t k row l)

  pub sums_more : (more : List ℕ) → ((k : ℕ) → k < 8 → slice_index more k ≡ slice_index sums k + slice_index lanes k * entry_of by t (run.first + i)) →
      (k : ℕ) → k < 8 → slice_index more k ≡ products_of by tile (run_of run.first (i + 1)) t k
  sums_more more is k l = is k l ∙ sum_then k l

-- eight columns from `at` on
pub written_lanes : (at : ℕ) (row v : List ℕ) → at + 8 ≤ length row → length v ≡ 8 → IsWritten (columns_of at (at + 8)) v row (put_chunk at row v)
written_lanes at row v room long = record {
  long = length-put_chunk at row v;
  written = λ j from l.
      let place : at + (j - at) ≡ j = omega arith in
      subst (λ t. slice_index (put_chunk at row v) t ≡ slice_index v (j - at)) place (get_or-put_chunk_at at row v (j - at) 0 (omega arith) (omega arith));
  before = λ j l. get_or-put_chunk_below at row v j 0 l;
  behind = λ j l. get_or-put_chunk_above at row v j 0 (omega arith);
}

-- zeros, in one row and in several
pub zero_at : (n k : ℕ) → slice_index (replicate n 0) k ≡ 0
zero_at zero k = refl
zero_at (suc n) zero = refl
zero_at (suc n) (suc k) = zero_at n k

pub zeros_at : (m n t k : ℕ) → entry_of (replicate m (replicate n 0)) t k ≡ 0
zeros_at zero n t k = refl
zeros_at (suc m) n zero k = zero_at n k
zeros_at (suc m) n (suc t) k = zeros_at m n t k

-- the products with all units
pub products_units : (c : List ℕ) (units : List (List ℕ)) (s j : ℕ) (g : ℕ → ℕ) → length units ≡ s → ((k : ℕ) → k < s → slice_index c k ≡ g k) →
    products c units (run_of 0 (length units)) j ≡ sum_below s (λ k. g k * entry_of units k j)
products_units c units s j g long same =
    sum_equal (length units) (λ i. slice_index c (0 + i) * entry_of units (0 + i) j) (λ k. g k * entry_of units k j)
    (λ i l.
    let plain : 0 + i ≡ i = omega arith in
    ap (λ k. slice_index c k * entry_of units k j) plain ∙ ap (λ x. x * entry_of units i j) (same i (omega arith)))
    ∙ ap (λ n. sum_below n (λ k. g k * entry_of units k j)) long

-- a number that is written in digits and read again
read_again : (p n x : ℕ) → 0 < p → x < p ^ n → number_l p (digits_l p n x) ≡ x
read_again p zero x some l = omega (arith, pow-zero p)
read_again p (suc n) x some l =
    let less : x / p < p ^ n = (div-lt_iff_lt-mul some).1 (rw (← pow-suc p n) l) in
    rw (read_again p n (x / p) some less) (omega (arith, div-add-mod' x p))

-- lanes of 32 bits that are all c, two of them read as one
abbrev pub doubled : ℕ → ℕ
doubled zero = zero
doubled (suc n) = suc (suc (doubled n))

paired_lanes : (n c : ℕ) → c < 4294967296 → digits_l 18446744073709551616 n (number_l 4294967296 (replicate (doubled n) c)) ≡ replicate n (c + 4294967296 * c)
paired_lanes zero c l = refl
paired_lanes (suc n) c l =
    let rest = number_l 4294967296 (replicate (doubled n) c) in
    let first : (c + 4294967296 * (c + 4294967296 * rest)) % 18446744073709551616 ≡ c + 4294967296 * c = omega arith in
    let others : (c + 4294967296 * (c + 4294967296 * rest)) / 18446744073709551616 ≡ rest = omega arith in
    (λ i. (first i) ∷ digits_l 18446744073709551616 n (others i)) ∙ ap (λ xs. (c + 4294967296 * c) ∷ xs) (paired_lanes n c l)

paired_below : (n c : ℕ) → c < 4294967296 → number_l 4294967296 (replicate (doubled n) c) < 256 ^ (8 * n)
paired_below zero c l = omega (arith, pow-zero 256)
paired_below (suc n) c l =
    let longer : 8 * suc n ≡ 8 * n + 8 = omega arith in
    let more : 256 ^ (8 * suc n) ≡ 256 ^ (8 * n) * 18446744073709551616 = ap (λ k. 256 ^ k) longer ∙ pow-add 256 (8 * n) 8 in
    omega (arith, more, paired_below n c l)

-- an operator on two splats
splat_splat : (f : ℕ → ℕ → ℕ) (n a b : ℕ) → zip2 f (replicate n a) (replicate n b) ≡ replicate n (f a b)
splat_splat f zero a b = refl
splat_splat f (suc n) a b = ap (λ xs. (f a b) ∷ xs) (splat_splat f n a b)

-- a number in all halves of the lanes, and the upper ones cleared
pub wide_lanes : (n c : ℕ) → c < 4294967296 →
    highs n (raised n (digits_l 18446744073709551616 n (number_l 256 (digits_l 256 (8 * n) (number_l 4294967296 (replicate (doubled n) c)))))) ≡ replicate n c
wide_lanes n c l =
    let both = read_again 256 (8 * n) (number_l 4294967296 (replicate (doubled n) c)) (omega arith) (paired_below n c l) in
    let low : (c + 4294967296 * c) * 4294967296 % 18446744073709551616 / 4294967296 ≡ c = omega arith in
    ap (λ x. highs n (raised n (digits_l 18446744073709551616 n x))) both
    ∙ ap (λ xs. highs n (raised n xs)) (paired_lanes n c l)
    ∙ ap (highs n) (splat_splat (λ x s. x * 2 ^ s % 18446744073709551616) n (c + 4294967296 * c) 32)
    ∙ splat_splat (λ x s. x / 2 ^ s) n ((c + 4294967296 * c) * 4294967296 % 18446744073709551616) 32
    ∙ ap (replicate n) low
