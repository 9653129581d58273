-- Words of digits at the front of a line.
use Rattle.std.proofs.Common.{ℕ, ◌||◌, ◌+◌, ◌-◌, ◌*◌, ◌≡◌, ◌≢◌, ◌++◌, true, false, eqb, List, [], ◌∷◌, None, length, refl, sym, ap, ◌∙◌, inl, inr, arith}
use Rattle.std.specs.List.{filter}
use Rattle.std.proofs.lemmas.Bool.{cases_Bool}
use Rattle.std.proofs.lemmas.Bool.Decides.{nat_tests}
use Rattle.sms_text.specs.Lines.{is_filled, is_gap, pieces, words}
use Rattle.sms_text.specs.Numbers.{are_digits, has_slash, is_digit, is_number, numerator, unsigned, value_from}
use Rattle.sms_text.specs.Spelling.{SplitSlash}

-- the first of digits is one, and so are the others
pub digits_split : (b : ℕ) (w : List ℕ) → are_digits (b ∷ w) ≡ true → (is_digit b ≡ true) × (are_digits w ≡ true)
digits_split b w h = elim (cases_Bool (is_digit b)) [
  | inl digit ↦ (digit, (let e : are_digits (b ∷ w) ≡ are_digits w = rw digit refl in sym e ∙ h))
  | inr other ↦ absurd (let f : are_digits (b ∷ w) ≡ false = rw other refl in cc)
]

digit_no_gap : (b : ℕ) → is_digit b ≡ true → is_gap b ≡ false
digit_no_gap b h = grind (arith, nat_tests)

leading_pieces : (w rest : List ℕ) (g : ℕ) → are_digits w ≡ true → is_gap g ≡ true → pieces (w ++ g ∷ rest) ≡ w ∷ pieces rest
leading_pieces [] rest g h gap = rw gap refl
leading_pieces (b ∷ w) rest g h gap =
    let d = digits_split b w h in
    rw (digit_no_gap b d.0, leading_pieces w rest g d.1 gap) refl

alone_pieces : (w : List ℕ) → are_digits w ≡ true → pieces w ≡ w ∷ []
alone_pieces [] h = refl
alone_pieces (b ∷ w) h =
    let d = digits_split b w h in
    rw (digit_no_gap b d.0, alone_pieces w d.1) refl

pub number_words : (w rest : List ℕ) (g : ℕ) → is_number w ≡ true → is_gap g ≡ true → words (w ++ g ∷ rest) ≡ w ∷ words rest
number_words [] rest g h gap = absurd cc
number_words (b ∷ w) rest g h gap = ap (filter is_filled) (leading_pieces (b ∷ w) rest g h gap)

-- a number alone
number_alone : (w : List ℕ) → is_number w ≡ true → words w ≡ w ∷ []
number_alone [] h = absurd cc
number_alone (b ∷ w) h = ap (filter is_filled) (alone_pieces (b ∷ w) h)

-- one digit more
pub digits_push : (w : List ℕ) (d : ℕ) → are_digits w ≡ true → is_digit d ≡ true → are_digits (w ++ d ∷ []) ≡ true
digits_push [] d h digit = rw digit refl
digits_push (b ∷ w) d h digit =
    let s = digits_split b w h in
    rw (s.0, digits_push w d s.1 digit) refl

pub value_push : (n d : ℕ) (w : List ℕ) → value_from n (w ++ d ∷ []) ≡ 10 * value_from n w + (d - 48)
value_push n d [] = refl
value_push n d (b ∷ w) = value_push (10 * n + (b - 48)) d w

pub some_number : (w : List ℕ) → length w ≢ 0 → are_digits w ≡ true → is_number w ≡ true
some_number [] some h = absurd (some refl)
some_number (b ∷ w) some h = h

-- digits have no slash
no_slash : (w : List ℕ) → are_digits w ≡ true → (has_slash w ≡ false) × (numerator w ≡ w)
no_slash [] h = (refl, refl)
no_slash (b ∷ w) h =
    let d = digits_split b w h in
    let other : eqb b 47 ≡ false = grind (arith, nat_tests, d.0) in
    let rest = no_slash w d.1 in
    (rw (other, rest.0) refl, rw (other, rest.1) refl)

pub number_digits_all : (w : List ℕ) → is_number w ≡ true → are_digits w ≡ true
number_digits_all [] h = absurd cc
number_digits_all (b ∷ w) h = h

-- a number with or without a sign is a word alone, and has no slash
pub signed_alone : (w : List ℕ) → is_number (unsigned w) ≡ true → (words w ≡ w ∷ []) × SplitSlash w w None
signed_alone [] h = absurd cc
signed_alone (b ∷ w) h = elim (cases_Bool (eqb b 45 || eqb b 43)) [
  | inl sign ↦
      let digits : are_digits w ≡ true = number_digits_all w (let same : unsigned (b ∷ w) ≡ w = rw sign refl in sym (ap is_number same) ∙ h) in
      let gap : is_gap b ≡ false = grind (arith, nat_tests) in
      let other : eqb b 47 ≡ false = grind (arith, nat_tests) in
      let rest = no_slash w digits in
      let alone : pieces (b ∷ w) ≡ (b ∷ w) ∷ [] = rw (gap, alone_pieces w digits) refl in
      (ap (filter is_filled) alone, (rw (other, rest.0) refl, refl, sym (rw (other, rest.1) refl)))
  | inr none ↦
      let number : is_number (b ∷ w) ≡ true = (let same : unsigned (b ∷ w) ≡ b ∷ w = rw none refl in sym (ap is_number same) ∙ h) in
      let rest = no_slash (b ∷ w) number in
      (number_alone (b ∷ w) number, (rest.0, refl, sym rest.1))
]
