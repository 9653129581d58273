-- A residue prepared for products with many numbers.
use Rattle.std.specs.Prelude.{ℕ}

-- the factor of the products, and their modulus
pub record Prepared : Type 0 where
  pub factor : ℕ
  pub modulus : ℕ

-- the residue a modulo p
abbrev pub prepared : ℕ → ℕ → Prepared
prepared a p = record { factor = a; modulus = p }
