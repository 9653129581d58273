-- The left factor of an eliminated block, where nobody stores it.
use Rattle.std.proofs.Common.{ℕ, ◌≡◌, ◌≢◌, ◌<◌, ◌⊎◌, inl, inr, List, length, slice_index, refl, ap, ◌∙◌, arith}
use Rattle.residue_words.specs.Matrix.{IsMatrix}
use Rattle.residue_words.proofs.Vectors.{entry_matrix_of, is_matrix_of, matrix_of}
use Rattle.sparse_rows.specs.Rows.{AreBelow, ResidueMatrix}
use Rattle.dense_finish.specs.declared.pivots.Pivots.{Pivots}
use Rattle.dense_finish.specs.declared.right_factor.RightFactor.{RightFactor}
use Rattle.dense_finish.specs.Block.{DenseBlock, IsBlockOf}
use Rattle.dense_rows.specs.Rows.{AreVectors, entry_of}
use Rattle.dense_finish.specs.Factors.{IsLeftFactor, IsRightFactored}
use Rattle.dense_finish.specs.Pivots.{EliminatesBlock, IsRightFactorOf}
use Rattle.dense_finish.proofs.Assembling.{assembled, indices_apart}
use Rattle.dense_rows.proofs.Indexing.{AreIndices, index_or_not}

-- f of what is there, or 0
abbrev there : {X Y : Type 0} → X ⊎ Y → (X → ℕ) → ℕ
there (inl w) f = f w
there (inr n) f = 0

there_is : {X Y : Type 0} (d : X ⊎ Y) (f : X → ℕ) (P : ℕ → Type 0) → ((w : X) → P (f w)) → (Y → P 0) → P (there d f)
there_is (inl w) f P some none = some w
there_is (inr n) f P some none = none n

-- where a row stands among those with entries
abbrev place : (indices : List ℕ) (i : ℕ) → ((t : ℕ) × (t < length indices) × (slice_index indices t ≡ i)) ⊎ ((t : ℕ) → t < length indices → slice_index indices t ≢ i)
place indices i = index_or_not (length indices) (slice_index indices) i

abbrev coefficient : (indices columns : List ℕ) (rows : List (List ℕ)) → ℕ → ℕ → ℕ
coefficient indices columns rows i k = there (place indices i) (λ w. entry_of rows w.0 (slice_index columns k))

abbrev left_there : (p m : ℕ) (indices columns : List ℕ) (rows : List (List ℕ)) → ResidueMatrix
left_there p m indices columns rows = record { modulus = p; matrix = matrix_of m (length columns) (coefficient indices columns rows) }

module _ (p m n : ℕ) (indices columns : List ℕ) (rows : List (List ℕ)) {Absent : ℕ → Type 0} (pos : 0 < p) (names : AreIndices m Absent indices) (long : length rows ≡ length indices) (vectors : AreVectors p n rows) (inside : AreBelow n columns) where
  left_there_matrix : IsMatrix p (left_there p m indices columns rows).matrix
  left_there_matrix = is_matrix_of p m (length columns) (coefficient indices columns rows) (λ i k l lk.
      there_is (place indices i) (λ w. entry_of rows w.0 (slice_index columns k)) (λ x. x < p)
      (λ w. (vectors w.0 (omega (arith, long, w.1))).residues (slice_index columns k) (inside k lk))
      (λ none. pos))

  left_there_is : IsLeftFactor m indices columns rows (left_there p m indices columns rows).matrix
  left_there_is = record {
    height = refl;
    width = refl;
    filled = λ t k l lk. entry_matrix_of m (length columns) (coefficient indices columns rows) (slice_index indices t) k (names.inside t l) lk
        ∙ there_is (place indices (slice_index indices t)) (λ w. entry_of rows w.0 (slice_index columns k)) (λ x. x ≡ entry_of rows t (slice_index columns k))
        (λ w. ap (λ s. entry_of rows s (slice_index columns k)) (indices_apart names w.0 t w.1 l w.2))
        (λ none. absurd (none t l refl));
    others = λ i k l lk none. entry_matrix_of m (length columns) (coefficient indices columns rows) i k l lk
        ∙ there_is (place indices i) (λ w. entry_of rows w.0 (slice_index columns k)) (λ x. x ≡ 0) (λ w. absurd (none w.0 w.1 w.2)) (λ out. refl);
  }

-- the pivots and the right factor of the eliminated block of A
pub right_assembled : {A : ResidueMatrix} {old new : DenseBlock} {f : Pivots} {right : RightFactor} → IsBlockOf A old → EliminatesBlock old new f → IsRightFactorOf new f right →
    IsRightFactored A.modulus A.matrix right
right_assembled {A} {old} {new} {f} {right} is done is_right =
    let dense = done.dense in
    let p = new.modulus in
    let pos : 0 < p = omega (arith, dense.modulus) in
    let m = new.height in
    let n = length new.columns in
    let L = left_there p m new.rows f.columns.items new.entries in
    let names : AreIndices m (λ i. Unit {0}) new.rows = record { inside = dense.rows_below; rising = dense.rows_rising; others = λ x l none. tt } in
    let matrix = left_there_matrix p m n new.rows f.columns.items new.entries pos names dense.long dense.residues done.stand.columns in
    let left = left_there_is p m n new.rows f.columns.items new.entries pos names dense.long dense.residues done.stand.columns in
    (L, assembled {L = L} is done refl matrix left is_right)
