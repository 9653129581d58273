-- Digits with zeros in front, and those of a number.
use Rattle.std.proofs.Common.{◌≡◌, inl, inr, ℕ, zero, suc, ◌+◌, ◌-◌, ◌*◌, ◌/◌, ◌%◌, ◌^◌, ◌<◌, ◌≤◌, Bool, true, ◌&&◌, T, eqb, leb, List, ◌∷◌, ◌++◌, length, get_or, drop, refl, sym, ap, ◌∙◌, arith, eq-zero-or-pos, eqb→eq, append_assoc, drop-drop, length-append, le-leb}
use Rattle.std.proofs.lemmas.Fmt.{decimal_digit, length-decimal-le_wide}
use Rattle.std.proofs.lemmas.Bool.{cases_lt, lt-leb}
use Rattle.std.specs.Fmt.{decimal}
use Rattle.itoa.proofs.Decimal.{decimal_two, decimal_pair, decimal_four}
use mir.Val.{bool_byte}
use lib.Ieee.Fits.{and_l, and_r}
use Rattle.sms_text.specs.SixDigits.{two_digits, six_digits}
use Rattle.sms_text.specs.declared.six_digits.TheConstants.{PAIRS}

-- the table has the digits of each number below 100
abbrev are_pairs : ℕ → Bool
are_pairs zero = true
are_pairs (suc n) = (eqb (get_or PAIRS (n * 2) 0) (48 + n / 10) && eqb (get_or PAIRS (n * 2 + 1) 0) (48 + n % 10)) && are_pairs n

pairs_below : (m n : ℕ) → T (are_pairs m) → n < m → (get_or PAIRS (n * 2) 0 ≡ 48 + n / 10) × (get_or PAIRS (n * 2 + 1) 0 ≡ 48 + n % 10)
pairs_below zero n t h = absurd (omega arith)
pairs_below (suc m) n t h =
    elim (eq-zero-or-pos (m - n)) [
      | inl z ↦ let e : n ≡ m = omega arith in let a = and_l _ (are_pairs m) t in rw e (eqb→eq _ _ (and_l _ _ a), eqb→eq _ _ (and_r _ _ a))
      | inr g ↦ pairs_below m n (and_r _ (are_pairs m) t) (omega arith)
    ]

pub digits_at : (n : ℕ) → n < 100 → (get_or PAIRS (n * 2) 0 ≡ 48 + n / 10) × (get_or PAIRS (n * 2 + 1) 0 ≡ 48 + n % 10)
digits_at n h = pairs_below 100 n tt h

-- the last six digits of a number from a million on
pub decimal_six : (n : ℕ) → 1000000 ≤ n → n < 2 ^ 64 → decimal n ≡ decimal (n / 1000000) ++ six_digits (n % 1000000)
decimal_six n low high =
    let a : n / 10000 / 100 ≡ n / 1000000 = omega arith in
    let b : n / 10000 % 100 ≡ n % 1000000 / 10000 = omega arith in
    let c : n % 10000 ≡ n % 1000000 % 10000 = omega arith in
    rw (decimal_four n (omega arith) high, decimal_pair (n / 10000) (omega arith) (omega arith), append_assoc, a, b, c) refl

pub length_six : (n : ℕ) → 1000000 ≤ n → n < 2 ^ 64 → length (decimal n) ≡ length (decimal (n / 1000000)) + 6
length_six n low high = ap length (decimal_six n low high) ∙ length-append _ _

-- a number below a million has k digits, the last of the six
abbrev HasDigits : ℕ → ℕ → Type 0
HasDigits n k = (length (decimal n) ≡ k) × ((rest : List ℕ) → drop (6 - k) (six_digits n ++ rest) ≡ decimal n ++ rest)

one : (n : ℕ) → n < 10 → HasDigits n 1
one n h =
    let d = decimal_digit n h in
    let e : n % 10000 % 100 % 10 ≡ n = omega arith in
    (ap length d, λ rest. rw (d, e) refl)

two : (n : ℕ) → 10 ≤ n → n < 100 → HasDigits n 2
two n low h =
    let d = decimal_two n low h in
    let e : n % 10000 % 100 ≡ n = omega arith in
    (ap length d, λ rest. rw (d, e) refl)

three : (n : ℕ) → 100 ≤ n → n < 1000 → HasDigits n 3
three n low h =
    let d : decimal n ≡ (48 + n / 100) ∷ two_digits (n % 100) = rw (decimal_pair n low (omega arith), decimal_digit (n / 100) (omega arith)) refl in
    let e : n % 10000 ≡ n = omega arith in
    let f : n / 100 % 10 ≡ n / 100 = omega arith in
    (ap length d, λ rest. rw (d, e, f) refl)

four : (n : ℕ) → 1000 ≤ n → n < 10000 → HasDigits n 4
four n low h =
    let d : decimal n ≡ two_digits (n / 100) ++ two_digits (n % 100) = rw (decimal_pair n (omega arith) (omega arith), decimal_two (n / 100) (omega arith) (omega arith)) refl in
    let e : n % 10000 ≡ n = omega arith in
    (ap length d, λ rest. rw (d, e) refl)

five : (n : ℕ) → 10000 ≤ n → n < 100000 → HasDigits n 5
five n low h =
    let d : decimal n ≡ (48 + n / 10000) ∷ (two_digits (n % 10000 / 100) ++ two_digits (n % 10000 % 100)) =
    rw (decimal_four n low (omega arith), decimal_digit (n / 10000) (omega arith)) refl in
    let f : n / 10000 % 10 ≡ n / 10000 = omega arith in
    (ap length d, λ rest. rw (d, f) refl)

all_six : (n : ℕ) → 100000 ≤ n → n < 1000000 → HasDigits n 6
all_six n low h =
    let d : decimal n ≡ six_digits n = rw (decimal_four n (omega arith) (omega arith), decimal_two (n / 10000) (omega arith) (omega arith)) refl in
    (ap length d, λ rest. rw d refl)

-- the comparisons of a number below a million count its digits, and its digits are the last of the six
abbrev pub count_by_comparisons : ℕ → ℕ
count_by_comparisons n = 1 + bool_byte (leb 10 n) + bool_byte (leb 100 n) + bool_byte (leb 1000 n) + bool_byte (leb 10000 n) + bool_byte (leb 100000 n)

has_counted : (n : ℕ) → n < 1000000 → HasDigits n (count_by_comparisons n)
has_counted n h = elim (cases_lt n 10) [
  | inl a ↦ rw (lt-leb 10 n a, lt-leb 100 n (omega arith), lt-leb 1000 n (omega arith), lt-leb 10000 n (omega arith), lt-leb 100000 n (omega arith)) (one n a)
  | inr a ↦ elim (cases_lt n 100) [
    | inl b ↦ rw (le-leb 10 n a, lt-leb 100 n b, lt-leb 1000 n (omega arith), lt-leb 10000 n (omega arith), lt-leb 100000 n (omega arith)) (two n a b)
    | inr b ↦ elim (cases_lt n 1000) [
      | inl c ↦ rw (le-leb 10 n a, le-leb 100 n b, lt-leb 1000 n c, lt-leb 10000 n (omega arith), lt-leb 100000 n (omega arith)) (three n b c)
      | inr c ↦ elim (cases_lt n 10000) [
        | inl d ↦ rw (le-leb 10 n a, le-leb 100 n b, le-leb 1000 n c, lt-leb 10000 n d, lt-leb 100000 n (omega arith)) (four n c d)
        | inr d ↦ elim (cases_lt n 100000) [
          | inl e ↦ rw (le-leb 10 n a, le-leb 100 n b, le-leb 1000 n c, le-leb 10000 n d, lt-leb 100000 n e) (five n d e)
          | inr e ↦ rw (le-leb 10 n a, le-leb 100 n b, le-leb 1000 n c, le-leb 10000 n d, le-leb 100000 n e) (all_six n e h)
        ]
      ]
    ]
  ]
]

pub count_is : (n : ℕ) → n < 1000000 → count_by_comparisons n ≡ length (decimal n)
count_is n h = sym (has_counted n h).0

pub some_digits : (n : ℕ) → n < 1000000 → 1 ≤ length (decimal n)
some_digits n h = omega (arith, count_is n h)

pub at_most_twenty : (n : ℕ) → n < 2 ^ 64 → length (decimal n) ≤ 20
at_most_twenty n h = length-decimal-le_wide 20 n (omega arith) (omega arith) (omega arith)

-- six more digits of a number were put in front of what stands at a place
pub six_put : (n at : ℕ) (new old : List ℕ) → 1000000 ≤ n → n < 2 ^ 64 → 6 ≤ at → drop (at - 6) new ≡ six_digits (n % 1000000) ++ drop (at - 6 + 6) old
    → decimal (n / 1000000) ++ drop (at - 6) new ≡ decimal n ++ drop at old
six_put n at new old low high room put =
    let same : at - 6 + 6 ≡ at = omega arith in
    ap (λ l. decimal (n / 1000000) ++ l) put ∙ sym (append_assoc (decimal (n / 1000000)) (six_digits (n % 1000000)) (drop (at - 6 + 6) old))
    ∙ ap (λ l. l ++ drop (at - 6 + 6) old) (sym (decimal_six n low high)) ∙ ap (λ k. decimal n ++ drop k old) same

-- the last ones were put, with zeros in front that don't count
pub last_put : (n at : ℕ) (new old : List ℕ) → n < 1000000 → 6 ≤ at → drop (at - 6) new ≡ six_digits n ++ drop (at - 6 + 6) old
    → drop (at - length (decimal n)) new ≡ decimal n ++ drop at old
last_put n at new old h room put =
    let few = length-decimal-le_wide 6 n (omega arith) h (omega arith) in
    let past : at - length (decimal n) ≡ at - 6 + (6 - length (decimal n)) = omega arith in
    let same : at - 6 + 6 ≡ at = omega arith in
    let ends : drop (6 - length (decimal n)) (six_digits n ++ drop (at - 6 + 6) old) ≡ decimal n ++ drop (at - 6 + 6) old =
    rw (has_counted n h).0 ((has_counted n h).1 (drop (at - 6 + 6) old)) in
    ap (λ k. drop k new) past ∙ sym (drop-drop (6 - length (decimal n)) (at - 6) new) ∙ ap (drop (6 - length (decimal n))) put ∙ ends
    ∙ ap (λ k. decimal n ++ drop k old) same
