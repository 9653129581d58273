-- Digits with zeros in front.
use Rattle.std.specs.Prelude.{◌+◌, ◌/◌, ◌%◌, ℕ, List, [], ◌∷◌, ◌++◌}

abbrev pub two_digits : ℕ → List ℕ
two_digits n = (48 + n / 10) ∷ (48 + n % 10) ∷ []

abbrev pub six_digits : ℕ → List ℕ
six_digits n = two_digits (n / 10000) ++ two_digits (n % 10000 / 100) ++ two_digits (n % 10000 % 100)
