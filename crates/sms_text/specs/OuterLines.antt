-- Lines of words outside of matrix texts: those of certificates, of traces and of scripts (this project's formats).
use Rattle.std.specs.Prelude.{◌≡◌, ◌≤◌, ◌-◌, ◌==◌, ◌||◌, ◌&&◌, nat_le, Bool, true, false, not, ℕ, List, [], ◌∷◌, codes}
use Rattle.std.specs.Str.{bytes_eq}
use Rattle.residue_words.specs.declared.modulus.TheConstants.{MODULUS_BOUND}
use Rattle.sms_text.specs.declared.kind.Kind.{Kind}
use Rattle.sms_text.specs.declared.kind.Kind.TheVariants as kind
use Rattle.sms_text.specs.declared.reader.TheConstants.{LARGEST_TEXT_SIZE}
use Rattle.sms_text.specs.Numbers.{is_number, value, is_value, divides_by_zero}

-- the first line of a certificate, and a pivot with so many behind it; the first line of a trace, and a step with so many behind it; a line
-- of a script whose rows have this width
pub data LineForm : Type 0 where
  Certificate : LineForm
  Pivot : ℕ → LineForm
  Trace : LineForm
  Step : ℕ → LineForm
  Script : ℕ → LineForm

-- one or more digits, of a number that is at most this; of one from 1 on
abbrev pub is_up_to : ℕ → List ℕ → Bool
is_up_to most w = is_number w && nat_le (value w) most

abbrev pub is_from_one_up_to : ℕ → List ℕ → Bool
is_from_one_up_to most w = is_up_to most w && not (value w == 0)

-- such a word spells this number
pub record IsUpTo (most : ℕ) (w : List ℕ) (n : ℕ) : Type 0 where
  pub test : is_up_to most w ≡ true
  pub spelled : n ≡ value w
  pub bound : n ≤ most

-- a modulus and a count, as first lines give them; a row or a column
abbrev pub is_modulus_word : List ℕ → Bool
is_modulus_word w = is_up_to (MODULUS_BOUND - 1) w

abbrev pub is_count_word : List ℕ → Bool
is_count_word w = is_up_to LARGEST_TEXT_SIZE w

abbrev pub is_place_word : List ℕ → Bool
is_place_word w = is_from_one_up_to LARGEST_TEXT_SIZE w

-- what a certificate is of
abbrev pub is_kind_word : List ℕ → Bool
is_kind_word w = bytes_eq w (codes "rank") || bytes_eq w (codes "rref") || bytes_eq w (codes "kernel")

-- `certificate K P R`
abbrev pub is_certificate : List (List ℕ) → Bool
is_certificate (w ∷ k ∷ p ∷ r ∷ []) =
    bytes_eq w (codes "certificate") && is_kind_word k && is_modulus_word p && is_count_word r
is_certificate _ = false

-- `i j`
abbrev pub is_pivot : List (List ℕ) → Bool
is_pivot (i ∷ j ∷ []) = is_place_word i && is_place_word j
is_pivot _ = false

-- `trace P K`
abbrev pub is_trace : List (List ℕ) → Bool
is_trace (w ∷ p ∷ k ∷ []) = bytes_eq w (codes "trace") && is_modulus_word p && is_count_word k
is_trace _ = false

-- `i j v`
abbrev pub is_step : List (List ℕ) → Bool
is_step (i ∷ j ∷ v ∷ []) = is_place_word i && is_place_word j && is_count_word v
is_step _ = false

-- `c v c v ..`: columns of rows of this width, and values
abbrev pub are_terms : ℕ → ℕ → List (List ℕ) → Bool
are_terms p n [] = true
are_terms p n (c ∷ []) = false
are_terms p n (c ∷ v ∷ ws) =
    is_from_one_up_to n c && is_value v && not (divides_by_zero p v) && are_terms p n ws

-- `row c v ..` and `in c v ..`; `rank`, `rref` and `end`
abbrev pub takes_terms : List ℕ → Bool
takes_terms w = bytes_eq w (codes "row") || bytes_eq w (codes "in")

abbrev pub takes_nothing : List ℕ → Bool
takes_nothing w = bytes_eq w (codes "rank") || bytes_eq w (codes "rref") || bytes_eq w (codes "end")

abbrev pub is_script : ℕ → ℕ → List (List ℕ) → Bool
is_script p n [] = false
is_script p n (w ∷ []) = takes_terms w || takes_nothing w
is_script p n (w ∷ c ∷ ws) = takes_terms w && are_terms p n (c ∷ ws)

-- the line that a script ends with
abbrev pub is_script_end : List (List ℕ) → Bool
is_script_end (w ∷ []) = bytes_eq w (codes "end")
is_script_end _ = false

-- a line of these words is of this form
abbrev pub has_form : ℕ → LineForm → List (List ℕ) → Bool
has_form p Certificate ws = is_certificate ws
has_form p (Pivot n) ws = is_pivot ws
has_form p Trace ws = is_trace ws
has_form p (Step n) ws = is_step ws
has_form p (Script n) ws = is_script p n ws

-- the fault of a line that isn't of this form
abbrev pub fault_of : LineForm → Kind
fault_of Certificate = kind.Certificate
fault_of (Pivot n) = kind.Certificate
fault_of Trace = kind.Trace
fault_of (Step n) = kind.Trace
fault_of (Script n) = kind.Script
