-- Numbers that digits spell, in a range.
use Rattle.std.proofs.Common.{ℕ, ◌≡◌, ◌≢◌, ◌+◌, ◌-◌, ◌*◌, ◌<◌, ◌≤◌, true, false, List, [], ◌∷◌, length, drop, get_or, sym, ap, ◌∙◌, arith}
use Rattle.sms_text.specs.Numbers.{are_digits, is_digit, is_number, value, value_from}
use Rattle.sms_text.proofs.Digits.{digits_all, digits_more, digits_stop, number_digits, value_all, value_more}
use Rattle.spasm_words.specs.Words.{IsInRange}

-- the digits before i make this number
pub record IsSpelledTo (w : List ℕ) (i number : ℕ) : Type 0 where
  pub digits : are_digits (drop i w) ≡ are_digits w
  pub same : value_from number (drop i w) ≡ value w

pub spelled_more : (w : List ℕ) (i number next : ℕ) → IsSpelledTo w i number → i < length w → is_digit (get_or w i 0) ≡ true → next ≡ 10 * number + (get_or w i 0 - 48) → IsSpelledTo w (i + 1) next
spelled_more w i number next h less digit e = record {
  digits = digits_more w i less digit ∙ h.digits;
  same = ap (λ n. value_from n (drop (i + 1) w)) e ∙ sym (value_more w i number less) ∙ h.same;
}

value_grows : (n : ℕ) (w : List ℕ) → n ≤ value_from n w
value_grows n [] = omega arith
value_grows n (b ∷ bs) = omega (arith, value_grows (10 * n + (b - 48)) bs)

-- a byte that is no digit
pub not_spelled : (w : List ℕ) (i number low high : ℕ) → IsSpelledTo w i number → i < length w → is_digit (get_or w i 0) ≡ false → (n : ℕ) → ¬ IsInRange low high w n
not_spelled w i number low high h less other n is =
    let wrong : true ≡ false = sym is.0 ∙ number_digits w (λ e. absurd (omega arith)) ∙ sym h.digits ∙ digits_stop w i less other in
    absurd cc

-- a number that is too large with the next digit
pub too_large : (w : List ℕ) (i number low high : ℕ) → IsSpelledTo w i number → i < length w → high < 10 * number + (get_or w i 0 - 48) → (n : ℕ) → ¬ IsInRange low high w n
too_large w i number low high h less large n is =
    let grown = value_grows (10 * number + (get_or w i 0 - 48)) (drop (i + 1) w) in
    let whole : value_from (10 * number + (get_or w i 0 - 48)) (drop (i + 1) w) ≡ value w = sym (value_more w i number less) ∙ h.same in
    omega (arith, grown, whole, is.1, is.3, large)

-- all digits
pub spelled_all : (w : List ℕ) (i number : ℕ) → IsSpelledTo w i number → length w ≤ i → length w ≢ 0 → (is_number w ≡ true) × (number ≡ value w)
spelled_all w i number h past some = (number_digits w some ∙ sym h.digits ∙ digits_all w i past, sym (value_all w i number past) ∙ h.same)

pub out_of_range : (w : List ℕ) (i number low high : ℕ) → IsSpelledTo w i number → length w ≤ i → length w ≢ 0 → (low ≤ number → high < number) → (n : ℕ) → ¬ IsInRange low high w n
out_of_range w i number low high h past some out n is =
    let all = spelled_all w i number h past some in
    let same : number ≡ n = all.1 ∙ sym is.1 in
    omega (arith, same, is.2, is.3, out (omega (arith, same, is.2)))
