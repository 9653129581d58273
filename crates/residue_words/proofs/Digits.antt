-- One more decimal digit of a folded number.
use Rattle.std.proofs.Common.{ℕ, ◌≡◌, ◌+◌, ◌*◌, ◌%◌, refl, ◌∙◌, arith}
use Rattle.residue_words.specs.Fold.{IsFold}
use Rattle.residue_words.proofs.Residues.{add_same, mul_same}

-- a number that stands for what was kept serves as well
pub next_digit : (p n d modulus kept low : ℕ) → IsFold p n (record { modulus = modulus; kept = kept }) → low % modulus ≡ kept % modulus →
    (kept ≡ 0 → low ≡ 0) → (low ≡ 0 → kept ≡ 0) → IsFold p (10 * n + d) (record { modulus = modulus; kept = 10 * low + d })
next_digit p n d modulus kept low h same zero nonzero = record {
  modulus = h.modulus;
  residue =
      let low_same : low % p ≡ n % p = rw (← h.modulus) (same ∙ rw (← h.modulus) at h.residue) in
      add_same p (10 * low) (10 * n) d d (mul_same p 10 10 low n refl low_same) refl;
  zero = λ e. let inner : low ≡ 0 = zero (h.zero (omega arith)) in omega arith;
  nonzero = λ e. let inner : n ≡ 0 = h.nonzero (nonzero (omega arith)) in omega arith;
}
