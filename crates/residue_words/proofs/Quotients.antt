-- Quotients found by a product with a reciprocal: w stands for 2^64 or 2^32, z for 1, 2^32 or a residue, m is the quotient of z w by p, with remainder e.
use Rattle.std.proofs.Common.{ℕ, ◌≡◌, ◌≢◌, ◌+◌, ◌*◌, ◌/◌, ◌%◌, ◌<◌, ◌≤◌, sym, ap, ◌∙◌, arith, mod-lt}
use Rattle.std.proofs.Math.Nat.{div-add-mod, lt_of_mul-lt-mul_left, mul-le-mul_left, mul-le-mul_right}
use Rattle.std.proofs.lemmas.Nat.{mod-mul-add}

-- the estimate q of x / p, for x = z high + low, makes w times the rest into three small terms
rest_scaled : (w z p m e x high low q f : ℕ) → p * m + e ≡ z * w → x ≡ z * high + low → w * q + f ≡ high * m →
    w * (q * p) + (w * low + (high * e + f * p)) ≡ w * x
rest_scaled w z p m e x high low q f h1 h2 h3 =
    omega (arith, ap (λ y. high * y) h1, ap (λ y. w * y) h2, ap (λ y. y * p) h3)

-- the estimate is never too large
pub estimate_low : (w z p m e x high low q f : ℕ) → 0 < w → p * m + e ≡ z * w → x ≡ z * high + low → w * q + f ≡ high * m → q * p ≤ x
estimate_low w z p m e x high low q f pos h1 h2 h3 =
    let less : w * (q * p) < w * (x + 1) = omega (arith, rest_scaled w z p m e x high low q f h1 h2 h3) in
    let found : q * p < x + 1 = lt_of_mul-lt-mul_left w less in
    omega arith

-- the estimate leaves less than three times p
pub estimate_near : (w z p m e x high low q f : ℕ) → 0 < w → p * m + e ≡ z * w → x ≡ z * high + low → w * q + f ≡ high * m →
    e < p → f < w → high < w → low < p → x < q * p + 3 * p
estimate_near w z p m e x high low q f pos h1 h2 h3 le lf lh ll =
    let one : high * e ≤ w * e = mul-le-mul_right e (omega arith) in
    let two : w * (e + 1) ≤ w * p = mul-le-mul_left w (omega arith) in
    let three : f * p ≤ w * p = mul-le-mul_right p (omega arith) in
    let four : w * (low + 1) ≤ w * p = mul-le-mul_left w (omega arith) in
    let less : w * x < w * (q * p + 3 * p) = omega (arith, rest_scaled w z p m e x high low q f h1 h2 h3) in
    lt_of_mul-lt-mul_left w less

-- where nothing is shifted out, it leaves less than twice p
pub estimate_nearer : (w z p m e y q f : ℕ) → 0 < w → p * m + e ≡ z * w → w * q + f ≡ y * m →
    e < p → f < w → y < w → z * y < q * p + 2 * p
estimate_nearer w z p m e y q f pos h1 h3 le lf lh =
    let one : y * e ≤ w * e = mul-le-mul_right e (omega arith) in
    let two : w * (e + 1) ≤ w * p = mul-le-mul_left w (omega arith) in
    let three : f * p ≤ w * p = mul-le-mul_right p (omega arith) in
    let less : w * (z * y) < w * (q * p + 2 * p) = omega (arith, rest_scaled w z p m e (z * y) y 0 q f h1 (omega arith) h3) in
    lt_of_mul-lt-mul_left w less

-- what a multiple of p leaves below p is the residue
pub rest_residue : (p q x r : ℕ) → x ≡ q * p + r → r < p → r ≡ x % p
rest_residue p q x r e l = sym (mod-mul-add q p r l) ∙ ap (λ y. y % p) (sym e)

-- p divides v by the quotient m
reciprocal_split : (v p m : ℕ) → m ≡ v / p → p * m + v % p ≡ v
reciprocal_split v p m e = ap (λ y. p * y + v % p) e ∙ div-add-mod v p

-- q divides y by w
quotient_split : (w y q : ℕ) → q ≡ y / w → w * q + y % w ≡ y
quotient_split w y q e = ap (λ z. w * z + y % w) e ∙ div-add-mod y w

-- the estimate q of x / p by the quotient m of w by p is never too large, and too small by at most 1
pub narrow_low : (w x p m q : ℕ) → 0 < w → m ≡ w / p → q ≡ x * m / w → q * p ≤ x
narrow_low w x p m q pos e g =
    estimate_low w 1 p m (w % p) x x 0 q (x * m % w) pos (reciprocal_split w p m e ∙ omega arith) (omega arith) (quotient_split w (x * m) q g)

pub narrow_near : (w x p m q : ℕ) → 0 < w → p ≢ 0 → x < w → m ≡ w / p → q ≡ x * m / w → x < q * p + 2 * p
narrow_near w x p m q pos nonzero less e g =
    let near = estimate_nearer w 1 p m (w % p) x q (x * m % w) pos (reciprocal_split w p m e ∙ omega arith) (quotient_split w (x * m) q g) (mod-lt w (omega arith)) (mod-lt (x * m) pos) less in
    omega arith

-- the estimate q of a y / p by the quotient m of a w by p is never too large, and too small by at most 1
pub prepared_low : (w a y p m q : ℕ) → 0 < w → m ≡ a * w / p → q ≡ m * y / w → q * p ≤ a * y
prepared_low w a y p m q pos e g =
    estimate_low w a p m (a * w % p) (a * y) y 0 q (m * y % w) pos (reciprocal_split (a * w) p m e) (omega arith) (quotient_split w (m * y) q g ∙ omega arith)

pub prepared_near : (w a y p m q : ℕ) → 0 < w → 0 < p → y < w → m ≡ a * w / p → q ≡ m * y / w → a * y < q * p + 2 * p
prepared_near w a y p m q pos nonzero less e g =
    estimate_nearer w a p m (a * w % p) y q (m * y % w) pos (reciprocal_split (a * w) p m e) (quotient_split w (m * y) q g ∙ omega arith)
    (mod-lt (a * w) nonzero) (mod-lt (m * y) pos) less

-- the estimate q of x / p by the high part of x and the quotient m of z w by p is never too large, and too small by at most 2
pub wide_low : (w z x p m high q : ℕ) → 0 < w → m ≡ z * w / p → high ≡ x / z → q ≡ high * m / w → q * p ≤ x
wide_low w z x p m high q pos e h g =
    estimate_low w z p m (z * w % p) x high (x % z) q (high * m % w) pos (reciprocal_split (z * w) p m e) (sym (quotient_split z x high h)) (quotient_split w (high * m) q g)

pub wide_near : (w z x p m high q : ℕ) → 0 < w → 0 < z → z < p → x < z * w → m ≡ z * w / p → high ≡ x / z → q ≡ high * m / w → x < q * p + 3 * p
wide_near w z x p m high q pos z_pos z_less less e h g =
    let split : z * high + x % z ≡ x = quotient_split z x high h in
    let inside : x % z < z = mod-lt x z_pos in
    let below : high < w = lt_of_mul-lt-mul_left z (omega arith) in
    estimate_near w z p m (z * w % p) x high (x % z) q (high * m % w) pos (reciprocal_split (z * w) p m e) (sym split) (quotient_split w (high * m) q g)
    (mod-lt (z * w) (omega arith)) (mod-lt (high * m) pos) below (omega arith)
