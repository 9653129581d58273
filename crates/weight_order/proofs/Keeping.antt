-- Matrices that are transposed and whose rows are picked keep the rank.
use Rattle.std.proofs.Common.{ℕ, ◌≡◌, ◌<◌, ◌≤◌, ◌∙◌, List, length, sym, refl, subst, arith}
use Rattle.std.proofs.lemmas.List.{get_or_default}
use Rattle.std.proofs.lemmas.List.Sorted.{All-permutation, Contains-permutation, length_permutation}
use Rattle.residue_words.specs.Matrix.{Matrix, IsMatrix}
use Rattle.residue_words.specs.Residues.{IsPrime}
use Rattle.row_space.specs.Echelon.{HasRank}
use Rattle.sparse_rows.specs.Rows.{ResidueMatrix, selected, transposed}
use Rattle.sparse_rows.proofs.Rising.{rising_short}
use Rattle.weight_order.specs.Keeping.{AreFilledInSomeOrder, KeepsRank}
use Rattle.weight_order.specs.Laws.{HasEachFilled}
use Rattle.weight_order.proofs.Selecting.{selected_matrix, selecting_rank}
use Rattle.weight_order.proofs.Transposing.{transposed_matrix, transposing}

-- a matrix keeps its own rank
pub keeps_itself : {R : ResidueMatrix} → IsMatrix R.modulus R.matrix → KeepsRank R R
keeps_itself {R} sound = record { modulus = refl; sound = sound; rank = λ prime r rank. rank; least = omega arith }

-- what keeps the rank of S, which keeps that of R, keeps that of R
pub keeps_chained : {Q R S : ResidueMatrix} → KeepsRank Q R → KeepsRank R S → KeepsRank Q S
keeps_chained {Q} {R} {S} a b = record {
  modulus = b.modulus ∙ a.modulus;
  sound = b.sound;
  rank = subst (λ p. (IsPrime p → (r : ℕ) → HasRank p S.matrix r → HasRank p R.matrix r) → IsPrime Q.modulus → (r : ℕ) → HasRank Q.modulus S.matrix r → HasRank Q.modulus Q.matrix r)
      (sym a.modulus) (λ f prime r rank. a.rank prime r (f prime r rank)) b.rank;
  least = omega (arith, a.least, b.least);
}

-- the transpose
pub transposing_keeps : {R S : ResidueMatrix} → IsMatrix R.modulus R.matrix → S.modulus ≡ R.modulus → S.matrix ≡ transposed R.matrix → KeepsRank R S
transposing_keeps {R} {S} sound modulus matrix = rw (modulus, matrix) record {
  modulus = refl;
  sound = transposed_matrix R.modulus R.matrix sound;
  rank = λ prime r. (transposing R.modulus R.matrix r prime sound).1;
  least = omega arith;
}

module _ {A : Matrix} {order : List ℕ} (h : AreFilledInSomeOrder A order) where
  pub each_filled : HasEachFilled A order
  each_filled = record {
    inside = All-permutation (λ i. i < A.height) h.0 order h.2 (λ k d l. subst (λ t. t < A.height) (get_or_default h.0 k 0 d l) (h.1.below k l));
    all = λ i l f. Contains-permutation h.0 order i h.2 (h.1.all i l f);
  }

  pub no_more : length order ≤ A.height
  no_more = omega (arith, length_permutation h.0 order h.2, rising_short h.0 A.height h.1.rising h.1.below)

-- the filled rows in some order
pub selecting_keeps : {R S : ResidueMatrix} {order : List ℕ} → 2 ≤ R.modulus → IsMatrix R.modulus R.matrix → AreFilledInSomeOrder R.matrix order → S.modulus ≡ R.modulus →
    S.matrix ≡ selected R.matrix order → KeepsRank R S
selecting_keeps {R} {S} {order} two sound h modulus matrix = rw (modulus, matrix) record {
  modulus = refl;
  sound = selected_matrix R.modulus R.matrix order sound (each_filled h);
  rank = λ prime r. (selecting_rank R.modulus R.matrix order r two sound (each_filled h)).1;
  least = omega (arith, no_more h);
}

-- the same rows of the transpose
pub turning_keeps : {R S : ResidueMatrix} {order : List ℕ} → 2 ≤ R.modulus → IsMatrix R.modulus R.matrix → AreFilledInSomeOrder (transposed R.matrix) order → S.modulus ≡ R.modulus →
    S.matrix ≡ selected (transposed R.matrix) order → KeepsRank R S
turning_keeps {R} {S} {order} two sound h modulus matrix =
    let turned : ResidueMatrix = record { modulus = R.modulus; matrix = transposed R.matrix } in
    keeps_chained {R = turned} (transposing_keeps sound refl refl) (selecting_keeps {R = turned} two (transposed_matrix R.modulus R.matrix sound) h modulus matrix)
