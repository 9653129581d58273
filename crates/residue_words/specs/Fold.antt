-- A decimal number folded modulo p.
use Rattle.std.specs.Prelude.{◌≡◌, ◌%◌, ℕ}

-- what a fold keeps: its modulus, and a number that stands for the digits so far
pub record Folded : Type 0 where
  pub modulus : ℕ
  pub kept : ℕ

-- the fold has modulus p, and has taken the digits of n: it keeps a number equal to n modulo p, which is 0 only where n is 0
pub record IsFold (p n : ℕ) (fold : Folded) : Type 0 where
  pub modulus : fold.modulus ≡ p
  pub residue : fold.kept % p ≡ n % p
  pub zero : n ≡ 0 → fold.kept ≡ 0
  pub nonzero : fold.kept ≡ 0 → n ≡ 0
