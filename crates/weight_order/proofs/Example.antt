-- The example worked.
use Rattle.std.proofs.Common.{ℕ, zero, suc, ◌≡◌, ◌<◌, length, refl, arith, lit<}
use Rattle.residue_words.specs.Matrix.{IsMatrix, entry, row}
use Rattle.row_space.specs.Example.{example}
use Rattle.row_space.proofs.Example.{worked}
use Rattle.weight_order.specs.Example.{IsTurnedExample}
use Rattle.weight_order.proofs.Transposing.{transposing}

example_matrix : IsMatrix 7 example
example_matrix = record { len = refl; each = λ i l. record { len = long i l; residues = λ j b. small i j l b } }
  where
    long : (i : ℕ) → i < 3 → length (row example i) ≡ 3
    long zero l = refl
    long (suc zero) l = refl
    long (suc (suc zero)) l = refl
    long (suc (suc (suc i))) l = absurd (omega arith)

    small : (i j : ℕ) → i < 3 → j < 3 → entry example i j < 7
    small zero zero l b = lit< tt
    small zero (suc zero) l b = lit< tt
    small zero (suc (suc zero)) l b = lit< tt
    small (suc zero) zero l b = lit< tt
    small (suc zero) (suc zero) l b = lit< tt
    small (suc zero) (suc (suc zero)) l b = lit< tt
    small (suc (suc zero)) zero l b = lit< tt
    small (suc (suc zero)) (suc zero) l b = lit< tt
    small (suc (suc zero)) (suc (suc zero)) l b = lit< tt
    small i (suc (suc (suc j))) l b = absurd (omega arith)
    small (suc (suc (suc i))) j l b = absurd (omega arith)

pub turned : IsTurnedExample
turned = record {
  turned = refl;
  rank = worked.rank;
  turned_rank = (transposing 7 example 2 worked.prime example_matrix).0 worked.rank;
}
