-- What multiplication keeps beside the modulus.
use Rattle.std.specs.Prelude.{ℕ, ◌/◌, ◌^◌, leb, if◌then◌else◌}

-- the quotient of 2^64 by p, or where p is above 2^32 of 2^96
abbrev pub reciprocal : ℕ → ℕ
reciprocal p = if leb p 4294967296 then 2 ^ 64 / p else 2 ^ 96 / p
