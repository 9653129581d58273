-- What the echelon forms of [A | b] and of the refuting system tell of A x = b.
use Rattle.std.proofs.Common.{ℕ, ◌≡◌, List, [], refl, sym, ap, subst, ◌∙◌, arith}
use Rattle.residue_words.specs.Residues.{IsPrime}
use Rattle.residue_words.specs.Matrix.{Matrix, IsMatrix, IsVector, entry, row}
use Rattle.row_space.specs.Laws.{RefutingIsSolvable, RefutingSystem, RefutingSystemIs}
use Rattle.row_space.specs.Solution.{IsRefutingCombination, IsSolution, refuting_rows, refuting_side}
use Rattle.row_space.proofs.Refuting.{refuting_matrix, side_vector}
use Rattle.sparse_rows.specs.Rows.{ResidueMatrix, beside, matrix_by, transposed}
use Rattle.kernel_solve.specs.declared.systems.Found.{Found}
use Rattle.kernel_solve.specs.declared.systems.Found.TheVariants.{Solution, Inconsistent}
use Rattle.kernel_solve.specs.Column.{column, column_matrix}
use Rattle.kernel_solve.specs.Found.{Answers, HasShape}
use Rattle.kernel_solve.proofs.Matrices.{column_again, column_is_matrix, column_vector}
use Rattle.spasm_lib.specs.declared.outcome.Solution.TheVariants as solution
use Rattle.spasm_lib.specs.Solved.{AnswersSystem, HasSolutionShape}

-- a column transposed is a row
pub transposed_column : (Y : Matrix) → Y.width ≡ 1 → row (transposed Y) 0 ≡ column Y
transposed_column Y narrow = ap (λ w. row (matrix_by w Y.height (λ i j. entry Y j i)) 0) narrow

-- the system A x = b, where b is the one column of B
module _ (p : ℕ) (A B : Matrix) (ma : IsMatrix p A) (mb : IsMatrix p B) (heights : A.height ≡ B.height) (narrow : B.width ≡ 1) where
  side_is : IsVector p A.height (column B)
  side_is = subst (λ n. IsVector p n (column B)) (sym heights) (column_vector mb (omega arith))

  -- what is told of the refuting system
  refuting_told : (q : ℕ) (S : Matrix) (found : Found) (y : List ℕ) → IsPrime p → RefutingSystem → q ≡ p → S ≡ beside (refuting_rows A (column B)) (column_matrix (refuting_side A.width)) → AnswersSystem q S found →
      RefutingSystemIs p A (column B) y × Answers p (refuting_rows A (column B)) (refuting_side A.width) found
  refuting_told q S found y prime system modulus matrix tells =
      let b : List ℕ = column B in
      let law = system p A b y prime.two_or_more ma side_is in
      let at = subst (λ q. AnswersSystem q S found) modulus tells in
      let side : List ℕ = refuting_side A.width in
      let long = side_vector p A.width prime.two_or_more in (
        law,
        subst (λ s. Answers p (refuting_rows A b) s found) (column_again side)
            (at prime (refuting_rows A b) (column_matrix side) (refuting_matrix p A b ma side_is) (column_is_matrix (subst (λ n. IsVector p n side) (sym long.len) long)) (sym long.len) refl matrix),
      )

  -- where the system has no solution, the refuting system has one, the refuting combination
  pub refuted_by : (q : ℕ) (S : Matrix) (found : Found) (y : ResidueMatrix) → IsPrime p → RefutingSystem → q ≡ p → S ≡ beside (refuting_rows A (column B)) (column_matrix (refuting_side A.width)) → AnswersSystem q S found → found ≡ Solution y →
      IsRefutingCombination p A (column B) (column y.matrix)
  refuted_by q S found y prime system modulus matrix tells here =
      let (law, told) = refuting_told q S found (column y.matrix) prime system modulus matrix tells in
      law.reduced.0 (subst (Answers p (refuting_rows A (column B)) (refuting_side A.width)) here told).1

  pub never_inconsistent : (q : ℕ) (S : Matrix) (found : Found) → IsPrime p → RefutingSystem → RefutingIsSolvable → q ≡ p → S ≡ beside (refuting_rows A (column B)) (column_matrix (refuting_side A.width)) → AnswersSystem q S found →
      found ≡ Inconsistent → ((x : List ℕ) → ¬ IsSolution p A (column B) x) → ⊥
  never_inconsistent q S found prime system solvable modulus matrix tells here none =
      let (law, told) = refuting_told q S found [] prime system modulus matrix tells in
      let some = solvable p A (column B) prime ma side_is none in
      subst (Answers p (refuting_rows A (column B)) (refuting_side A.width)) here told some.0 some.1

  -- what is told of the system
  pub told_of : (q : ℕ) (S : Matrix) (found : Found) → IsPrime p → q ≡ p → S ≡ beside A B → AnswersSystem q S found → Answers p A (column B) found
  told_of q S found prime modulus matrix tells = subst (λ q. AnswersSystem q S found) modulus tells prime A B ma mb heights narrow matrix

-- the shape of a solution of A x = b is that of what is found for [A | b]
pub solution_shaped : (p : ℕ) (A B : Matrix) (q : ℕ) (S : Matrix) (found : Found) (x : ResidueMatrix) → B.width ≡ 1 → q ≡ p → S ≡ beside A B → HasShape q S.width found → found ≡ Solution x →
    HasSolutionShape p A (solution.Found x)
solution_shaped p A B q S found x narrow modulus matrix shape here =
    let sizes = subst (HasShape q S.width) here shape in
    (sizes.0 ∙ modulus, subst (λ q. IsMatrix q x.matrix) modulus sizes.1, omega (arith, sizes.2, ap (λ m. m.width) matrix, narrow), sizes.3)
