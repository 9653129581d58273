-- Columns in another order are still enough.
use Rattle.std.proofs.Common.{ℕ, ◌<◌, ◌≤◌, List, length, subst, arith}
use Rattle.std.specs.List.Sorted.{IsPermutation}
use Rattle.std.proofs.lemmas.List.Sorted.{All-permutation, Contains-permutation, length_permutation}
use Rattle.std.proofs.lemmas.List.{get_or_default}
use Rattle.residue_words.specs.Matrix.{Matrix}
use Rattle.sparse_rows.specs.Rows.{AreEnough, AreEnoughInSomeOrder}
use Rattle.column_lists.proofs.Rising.{rising_short}
use Rattle.column_lists.proofs.Exchanging.{distinct_permuted}

-- columns that are enough are so in any order
pub enough_permuted : {A : Matrix} (columns order : List ℕ) → AreEnough A columns → IsPermutation columns order → AreEnoughInSomeOrder A order
enough_permuted {A} columns order enough moved = record {
  distinct = distinct_permuted columns order enough.rising moved;
  below = λ k l. All-permutation (λ j. j < A.width) columns order moved (λ t d b. subst (λ j. j < A.width) (get_or_default columns t 0 d b) (enough.below t b)) k 0 l;
  all = λ i j l b d. Contains-permutation columns order j moved (enough.all i j l b d);
}

-- and not more than all
pub enough_few : {A : Matrix} (columns order : List ℕ) → AreEnough A columns → IsPermutation columns order → length order ≤ A.width
enough_few {A} columns order enough moved = omega (arith, length_permutation columns order moved, rising_short columns A.width enough.rising enough.below)
