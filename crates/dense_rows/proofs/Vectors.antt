-- What vectors of residues hold at each lane.
use Rattle.std.proofs.Common.{ℕ, List, false, cond, ltb, get_or, length, map, replicate, ◌≡◌, ◌+◌, ◌-◌, ◌*◌, ◌/◌, ◌%◌, ◌^◌, ◌<◌, ◌≤◌, inl, inr, sym, ap, subst, ◌∙◌, arith, mod-eq_of_lt, Fits, w32, lit<}
use Rattle.std.proofs.lemmas.Nat.{mul-lt}
use Rattle.std.proofs.Math.Nat.{mul_comm, add-mul-mod_self_right}
use Rattle.std.specs.Simd.Lanes.{Each1, zip2, sel_l, top}
use Rattle.std.proofs.lemmas.Simd.{length-zip2, get_or-zip2, get_or-replicate, length-replicate, Each1-get_or, Each1-from_get_or, get_or-sel_l, tops_compared}
use Rattle.std.proofs.lemmas.Bool.{cases_lt}
use Rattle.std.proofs.lemmas.Bool.Decides.{nat_tests}
use Rattle.std.proofs.lemmas.List.{length-map, get_or-map}
use Rattle.residue_words.proofs.Quotients.{prepared_low, prepared_near, rest_residue}

-- an operator on two vectors
lane_of_two : (f : ℕ → ℕ → ℕ) (n : ℕ) (xs ys : List ℕ) (k : ℕ) → length xs ≡ n → length ys ≡ n → k < n →
    get_or (zip2 f xs ys) k 0 ≡ f (get_or xs k 0) (get_or ys k 0)
lane_of_two f n xs ys k p q l = get_or-zip2 f xs ys k 0 0 0 (omega arith) (omega arith)

-- an operator on a vector and a splat
lane_of_splat : (f : ℕ → ℕ → ℕ) (n : ℕ) (xs : List ℕ) (y k : ℕ) → length xs ≡ n → k < n →
    get_or (zip2 f xs (replicate n y)) k 0 ≡ f (get_or xs k 0) y
lane_of_splat f n xs y k p l = lane_of_two f n xs (replicate n y) k p (length-replicate n y) l ∙ ap (f (get_or xs k 0)) (get_or-replicate n k y 0 l)

-- the least of two vectors
abbrev pub least : List ℕ → List ℕ → List ℕ
least xs ys = sel_l (map (top 31) (zip2 (λ a b. cond (ltb a b) 4294967295 0) xs ys)) xs ys

lane_of_least : (n : ℕ) (xs ys : List ℕ) (k : ℕ) → length xs ≡ n → length ys ≡ n → k < n →
    get_or (least xs ys) k 0 ≡ cond (ltb (get_or xs k 0) (get_or ys k 0)) (get_or xs k 0) (get_or ys k 0)
lane_of_least n xs ys k p q l =
    let long : length (zip2 ltb xs ys) ≡ length xs = length-zip2 ltb xs ys (p ∙ sym q) in
    ap (λ ms. get_or (sel_l ms xs ys) k 0) (tops_compared w32 ltb xs ys)
    ∙ get_or-sel_l (zip2 ltb xs ys) xs ys k 0 (omega arith) (omega arith) (omega arith)
    ∙ ap (λ b. cond b (get_or xs k 0) (get_or ys k 0)) (get_or-zip2 ltb xs ys k 0 0 false (omega arith) (omega arith))

-- the least of x and x - p in 32 bits, where x is below 2p
wrapped_residue : (p x : ℕ) → p < 2147483648 → x < 2 * p →
    cond (ltb x ((x + (4294967296 - p)) % 4294967296)) x ((x + (4294967296 - p)) % 4294967296) ≡ x % p
wrapped_residue p x small near = elim (cases_lt x p) [
  | inl low ↦
      let wraps : (x + (4294967296 - p)) % 4294967296 ≡ x + (4294967296 - p) = mod-eq_of_lt (omega arith) in
      let kept : x % p ≡ x = mod-eq_of_lt low in
      rw (wraps, kept) (grind (arith, nat_tests))
  | inr high ↦
      let wraps : (x + (4294967296 - p)) % 4294967296 ≡ x - p = omega arith in
      let kept : x - p ≡ x % p = rest_residue p 1 x (x - p) (omega arith) (omega arith) in
      rw (wraps, ← kept) (grind (arith, nat_tests))
]

pub lane_of_residues : (n p : ℕ) (xs : List ℕ) (k : ℕ) → length xs ≡ n → k < n → p < 2147483648 → get_or xs k 0 < 2 * p →
    get_or (least xs (zip2 (λ a b. (a + (4294967296 - b)) % 4294967296) xs (replicate n p))) k 0 ≡ get_or xs k 0 % p
lane_of_residues n p xs k long l small near =
    let less = λ (a b : ℕ). (a + (4294967296 - b)) % 4294967296 in
    let long_less : length (zip2 less xs (replicate n p)) ≡ n = length-zip2 less xs (replicate n p) (long ∙ sym (length-replicate n p)) ∙ long in
    lane_of_least n xs (zip2 less xs (replicate n p)) k long long_less l
    ∙ ap (λ t. cond (ltb (get_or xs k 0) t) (get_or xs k 0) t) (lane_of_splat less n xs p k long l)
    ∙ wrapped_residue p (get_or xs k 0) small near

-- the lanes' products with a number in 64 bits, shifted down by 32
abbrev pub shifted_products : ℕ → ℕ → List ℕ → List ℕ
shifted_products n by y = zip2 (λ x s. x / 2 ^ s) (zip2 (λ a b. a * b % 18446744073709551616) (map (λ x. x) y) (replicate n by)) (replicate n 32)

pub length_shifted : (n by : ℕ) (y : List ℕ) → length y ≡ n → length (shifted_products n by y) ≡ n
length_shifted n by y long =
    let v = map (λ (x : ℕ). x) y in
    let times = λ (a b : ℕ). a * b % 18446744073709551616 in
    let long_v : length v ≡ n = length-map y (λ (x : ℕ). x) ∙ long in
    let long_products : length (zip2 times v (replicate n by)) ≡ n = length-zip2 times v (replicate n by) (long_v ∙ sym (length-replicate n by)) ∙ long_v in
    length-zip2 (λ x s. x / 2 ^ s) (zip2 times v (replicate n by)) (replicate n 32) (long_products ∙ sym (length-replicate n 32)) ∙ long_products

pub lane_of_shifted : (n by : ℕ) (y : List ℕ) (k : ℕ) → length y ≡ n → Each1 (Fits w32) y → by < 4294967296 → k < n →
    get_or (shifted_products n by y) k 0 ≡ by * get_or y k 0 / 4294967296
lane_of_shifted n by y k long fits small l =
    let shift = λ (x s : ℕ). x / 2 ^ s in
    let times = λ (a b : ℕ). a * b % 18446744073709551616 in
    let v = map (λ (x : ℕ). x) y in
    let long_v : length v ≡ n = length-map y (λ (x : ℕ). x) ∙ long in
    let long_products : length (zip2 times v (replicate n by)) ≡ n = length-zip2 times v (replicate n by) (long_v ∙ sym (length-replicate n by)) ∙ long_v in
    let lane : Fits w32 (get_or y k 0) = Each1-get_or (Fits w32) y k 0 (omega arith) fits in
    let less : get_or y k 0 * by < 18446744073709551616 = mul-lt (get_or y k 0) by 4294967296 4294967296 lane.fits small in
    lane_of_splat shift n (zip2 times v (replicate n by)) 32 k long_products l
    ∙ ap (λ t. t / 4294967296) (
    lane_of_splat times n v by k long_v l
    ∙ ap (λ t. t * by % 18446744073709551616) (get_or-map (λ (x : ℕ). x) y k 0 0 (omega arith))
    ∙ mod-eq_of_lt less ∙ omega arith)

-- they fit 32 bits
pub shifted_fit : (n by : ℕ) (y : List ℕ) → length y ≡ n → Each1 (Fits w32) y → by < 4294967296 → Each1 (Fits w32) (shifted_products n by y)
shifted_fit n by y long fits small =
    Each1-from_get_or (Fits w32) (shifted_products n by y) 0 (λ k l.
    let inside : k < n = omega (arith, length_shifted n by y long) in
    let lane : Fits w32 (get_or y k 0) = Each1-get_or (Fits w32) y k 0 (omega arith) fits in
    let less : by * get_or y k 0 < 4294967296 * 4294967296 = mul-lt by (get_or y k 0) 4294967296 4294967296 small lane.fits in
    let fit : Fits w32 (by * get_or y k 0 / 4294967296) = record { fits = omega arith } in
    subst (Fits w32) (sym (lane_of_shifted n by y k long fits small inside)) fit)

-- a difference of two numbers in 32 bits, each kept modulo 2^32
wrapped_difference : (x b : ℕ) → b ≤ x → x < b + 4294967296 → (x % 4294967296 + (4294967296 - b % 4294967296)) % 4294967296 ≡ x - b
wrapped_difference x b low near = omega arith

-- what a prepared product leaves in 32 bits is below 2p, and has the product's residue
pub record IsLaneRest (p a y r : ℕ) : Type 0 where
  pub near : r < 2 * p
  pub same : r % p ≡ a * y % p

wrapped_rest : (p a m y e : ℕ) → a < p → p < 2147483648 → m ≡ a * 4294967296 / p → y < 4294967296 → e ≡ m * y / 4294967296 →
    IsLaneRest p a y ((y * a % 4294967296 + (4294967296 - e * p % 4294967296)) % 4294967296)
wrapped_rest p a m y e residue small m_is y_small e_is =
    let low : e * p ≤ a * y = prepared_low 4294967296 a y p m e (lit< tt) m_is e_is in
    let near : a * y < e * p + 2 * p = prepared_near 4294967296 a y p m e (lit< tt) (omega arith) y_small m_is e_is in
    let is : (y * a % 4294967296 + (4294967296 - e * p % 4294967296)) % 4294967296 ≡ a * y - e * p =
    ap (λ t. (t % 4294967296 + (4294967296 - e * p % 4294967296)) % 4294967296) (mul_comm y a) ∙ wrapped_difference (a * y) (e * p) low (omega arith) in
    let rest : IsLaneRest p a y (a * y - e * p) = record {
      near = omega arith;
      same = sym (add-mul-mod_self_right (a * y - e * p) e p) ∙ ap (λ t. t % p) (omega arith);
    } in
    subst (IsLaneRest p a y) (sym is) rest

-- the products with a, less multiples of p, in 32 bits
abbrev pub differences : ℕ → ℕ → ℕ → List ℕ → List ℕ → List ℕ
differences n a p y e =
    zip2 (λ a b. (a + (4294967296 - b)) % 4294967296)
    (zip2 (λ a b. a * b % 4294967296) y (replicate n a)) (zip2 (λ a b. a * b % 4294967296) e (replicate n p))

pub lane_of_differences : (n p a m : ℕ) (y e : List ℕ) (k : ℕ) → length y ≡ n → Each1 (Fits w32) y → length e ≡ n → a < p → p < 2147483648 →
    m ≡ a * 4294967296 / p → ((k : ℕ) → k < n → get_or e k 0 ≡ m * get_or y k 0 / 4294967296) → k < n →
    IsLaneRest p a (get_or y k 0) (get_or (differences n a p y e) k 0)
lane_of_differences n p a m y e k long fits long_e residue small m_is e_is l =
    let times = λ (a b : ℕ). a * b % 4294967296 in
    let less = λ (a b : ℕ). (a + (4294967296 - b)) % 4294967296 in
    let lane : Fits w32 (get_or y k 0) = Each1-get_or (Fits w32) y k 0 (omega arith) fits in
    let long_left : length (zip2 times y (replicate n a)) ≡ n = length-zip2 times y (replicate n a) (long ∙ sym (length-replicate n a)) ∙ long in
    let long_right : length (zip2 times e (replicate n p)) ≡ n = length-zip2 times e (replicate n p) (long_e ∙ sym (length-replicate n p)) ∙ long_e in
    let is : get_or (differences n a p y e) k 0 ≡ less (times (get_or y k 0) a) (times (get_or e k 0) p) =
    lane_of_two less n (zip2 times y (replicate n a)) (zip2 times e (replicate n p)) k long_left long_right l
    ∙ (λ i. less (lane_of_splat times n y a k long l i) (lane_of_splat times n e p k long_e l i)) in
    subst (IsLaneRest p a (get_or y k 0)) (sym is) (wrapped_rest p a m (get_or y k 0) (get_or e k 0) residue small m_is lane.fits (e_is k l))

-- the sums of residues in 32 bits
pub lane_of_sums : (n p : ℕ) (x z : List ℕ) (k : ℕ) → length x ≡ n → length z ≡ n → p < 2147483648 → k < n → get_or x k 0 < p → get_or z k 0 < p →
    get_or (zip2 (λ a b. (a + b) % 4294967296) x z) k 0 ≡ get_or x k 0 + get_or z k 0
lane_of_sums n p x z k long_x long_z small l left right = lane_of_two (λ a b. (a + b) % 4294967296) n x z k long_x long_z l ∙ mod-eq_of_lt (omega arith)

-- a vector and the products of another with a number, which fit 64 bits
abbrev pub with_products : ℕ → ℕ → List ℕ → List ℕ → List ℕ
with_products n c x y = zip2 (λ a b. (a + b) % 18446744073709551616) x (zip2 (λ a b. a * b % 18446744073709551616) y (replicate n c))

pub lane_of_products : (n c d : ℕ) (x y : List ℕ) (k : ℕ) → length x ≡ n → length y ≡ n → k < n → d ≡ c → get_or x k 0 + get_or y k 0 * c < 18446744073709551616 →
    get_or (with_products n d x y) k 0 ≡ get_or x k 0 + get_or y k 0 * c
lane_of_products n c d x y k long_x long_y l same room =
    let times = λ (a b : ℕ). a * b % 18446744073709551616 in
    let plus = λ (a b : ℕ). (a + b) % 18446744073709551616 in
    let long : length (zip2 times y (replicate n d)) ≡ n = length-zip2 times y (replicate n d) (long_y ∙ sym (length-replicate n d)) ∙ long_y in
    let product : get_or y k 0 * c % 18446744073709551616 ≡ get_or y k 0 * c = mod-eq_of_lt (omega (arith, room)) in
    lane_of_two plus n x (zip2 times y (replicate n d)) k long_x long l
    ∙ ap (λ t. (get_or x k 0 + t) % 18446744073709551616) (lane_of_splat times n y d k long_y l ∙ ap (λ t. get_or y k 0 * t % 18446744073709551616) same ∙ product)
    ∙ mod-eq_of_lt room

-- the lanes' quotients by 2^32, and what is left below
abbrev pub highs : ℕ → List ℕ → List ℕ
highs n x = zip2 (λ x s. x / 2 ^ s) x (replicate n 32)

pub length_highs : (n : ℕ) (x : List ℕ) → length x ≡ n → length (highs n x) ≡ n
length_highs n x long = length-zip2 (λ x s. x / 2 ^ s) x (replicate n 32) (long ∙ sym (length-replicate n 32)) ∙ long

pub lane_of_highs : (n : ℕ) (x : List ℕ) (k : ℕ) → length x ≡ n → k < n → get_or (highs n x) k 0 ≡ get_or x k 0 / 4294967296
lane_of_highs n x k long l = lane_of_splat (λ x s. x / 2 ^ s) n x 32 k long l

pub highs_fit : (n : ℕ) (x : List ℕ) → length x ≡ n → ((k : ℕ) → k < n → get_or x k 0 < 18446744073709551616) → Each1 (Fits w32) (highs n x)
highs_fit n x long fits =
    Each1-from_get_or (Fits w32) (highs n x) 0 (λ k l.
    let inside : k < n = omega (arith, length_highs n x long) in
    let fit : Fits w32 (get_or x k 0 / 4294967296) = record { fits = omega (arith, fits k inside) } in
    subst (Fits w32) (sym (lane_of_highs n x k long inside)) fit)

abbrev pub raised : ℕ → List ℕ → List ℕ
raised n x = zip2 (λ x s. x * 2 ^ s % 18446744073709551616) x (replicate n 32)

pub length_raised : (n : ℕ) (x : List ℕ) → length x ≡ n → length (raised n x) ≡ n
length_raised n x long = length-zip2 (λ x s. x * 2 ^ s % 18446744073709551616) x (replicate n 32) (long ∙ sym (length-replicate n 32)) ∙ long

pub lane_of_raised : (n : ℕ) (x : List ℕ) (k : ℕ) → length x ≡ n → k < n → get_or (raised n x) k 0 ≡ get_or x k 0 * 4294967296 % 18446744073709551616
lane_of_raised n x k long l = lane_of_splat (λ x s. x * 2 ^ s % 18446744073709551616) n x 32 k long l

pub lane_of_lows : (n : ℕ) (x : List ℕ) (k : ℕ) → length x ≡ n → k < n → get_or (highs n (raised n x)) k 0 ≡ get_or x k 0 % 4294967296
lane_of_lows n x k long l =
    lane_of_highs n (raised n x) k (length_raised n x long) l ∙ ap (λ t. t / 4294967296) (lane_of_raised n x k long l) ∙ low_half (get_or x k 0)
  where
    low_half : (a : ℕ) → a * 4294967296 % 18446744073709551616 / 4294967296 ≡ a % 4294967296
    low_half a = omega arith
