-- From what is told of systems and of inverses to their answers.
use Rattle.std.proofs.Common.{ℕ, ◌≡◌, ◌<◌, ◌≤◌, ◌++◌, inl, inr, List, [], ◌∷◌, None, length, slice_index, refl, sym, ap, subst, ◌∙◌, arith}
use Rattle.std.specs.Prelude.{codes}
use Rattle.std.proofs.lemmas.Bool.Decides.{nat_tests}
use Rattle.residue_words.specs.Residues.{IsPrime}
use Rattle.residue_words.specs.Matrix.{Matrix, IsMatrix, entry, row}
use Rattle.residue_words.proofs.Vectors.{at_list_of, entry_matrix_of, entry_residue, is_matrix_of, length_list_of, matrix_equal}
use Rattle.row_space.proofs.Unique.{refutation_unique, solution_unique}
use Rattle.sms_text.specs.Written.{text_of}
use Rattle.sparse_rows.specs.Rows.{ResidueMatrix, LARGEST_SIZE}
use Rattle.kernel_solve.specs.Column.{column, column_matrix}
use Rattle.kernel_solve.proofs.Matrices.{one_item}
use Rattle.spasm_lib.specs.declared.outcome.Inverse.TheVariants as inversion
use Rattle.spasm_lib.specs.declared.outcome.Solution.TheVariants as solution
use Rattle.spasm_lib.specs.Inversion.{HasInversionShape, IsInversion}
use Rattle.spasm_lib.specs.Solved.{HasSolutionShape, IsSolved}
use Rattle.spasm_run.specs.declared.command_answer.CommandAnswer.TheVariants as answer
use Rattle.spasm_run.specs.declared.commands.TheConstants.{LARGEST_INVERTED}
use Rattle.spasm_words.specs.declared.command.Command.{Command}
use Rattle.spasm_words.specs.declared.command.Task.TheVariants as task
use Rattle.spasm_run.specs.Answers.{SolvesTo, as_row, misfit}
use Rattle.spasm_run.specs.Computed.{IsAnswerTo, asking}
use Rattle.spasm_run.specs.Contents.{matrices_alone}

sized : ℕ → ℕ → List (List ℕ) → Matrix
sized h w r = record { height = h; width = w; rows = r }

-- a matrix of one column is the column of its entries
pub column_whole : {p : ℕ} (X : Matrix) → IsMatrix p X → X.width ≡ 1 → X ≡ column_matrix (column X)
column_whole {p} X m narrow =
    let x : List ℕ = column X in
    let long : length x ≡ X.height = length_list_of X.height (λ i. entry X i 0) in
    let at : (i : ℕ) → i < X.height → slice_index x i ≡ entry X i 0 = λ i l. at_list_of X.height (λ i. entry X i 0) i l in
    matrix_equal p X (column_matrix x) m
    (is_matrix_of p (length x) 1 (λ i j. slice_index x i) (λ i j a b. subst (λ t. t < p) (sym (at i (omega arith))) (entry_residue p X m i 0 (omega arith) (omega arith))))
    (sym long) narrow
    (λ i j a b. let first : j ≡ 0 = omega arith in ap (entry X i) first ∙ sym (at i a) ∙ sym (entry_matrix_of (length x) 1 (λ i j. slice_index x i) i j (omega arith) (omega arith)))

-- a matrix of one row is its row
pub row_whole : {p : ℕ} (V : Matrix) → IsMatrix p V → V.height ≡ 1 → V ≡ as_row (row V 0)
unfolding sized
row_whole {p} V m low =
    ap (λ h. sized h V.width V.rows) low ∙ ap (λ w. sized 1 w V.rows) (sym (m.each 0 (omega arith)).len) ∙ ap (sized 1 (length (row V 0))) (one_item [] V.rows (m.len ∙ low))

-- the system A x = b, where b is the one column of B
module _ (p : ℕ) (A B : Matrix) (heights : A.height ≡ B.height) (narrow : B.width ≡ 1) where
  -- the right-hand side is of the shape that is wanted
  side_fits : misfit task.Solve (A ∷ B ∷ []) ≡ None
  side_fits = grind (arith, nat_tests)

  -- the solution answers, or what refutes the system
  pub solution_answers : (c : Command) (x : ResidueMatrix) → A.width < LARGEST_SIZE → HasSolutionShape p A (solution.Found x) → (IsPrime p → IsSolved p A (column B) (solution.Found x)) →
      IsAnswerTo (asking task.Solve p c) (matrices_alone (A ∷ B ∷ [])) (answer.Solution x)
  solution_answers c x wide shape solved = record {
    small = (omega (arith, shape.2), omega (arith, shape.3));
    fits = side_fits;
    ends = refl;
    shape = inl (x.matrix, shape.1, shape.2, shape.3, refl);
    answers = λ prime. inl (column x.matrix, solved prime, ap (λ X. codes "solution\n" ++ text_of X) (column_whole x.matrix shape.1 shape.3));
  }

  pub refutation_answers : (c : Command) (y : ResidueMatrix) → A.height < LARGEST_SIZE → HasSolutionShape p A (solution.Refuted y) → (IsPrime p → IsSolved p A (column B) (solution.Refuted y)) →
      IsAnswerTo (asking task.Solve p c) (matrices_alone (A ∷ B ∷ [])) (answer.Refutation y)
  refutation_answers c y tall shape solved = record {
    small = (omega (arith, shape.2), omega (arith, shape.3));
    fits = side_fits;
    ends = refl;
    shape = inr (y.matrix, shape.1, shape.2, shape.3, refl);
    answers = λ prime. inr (row y.matrix 0, (solved prime).0, (solved prime).1, ap (λ Y. codes "no solution\n" ++ text_of Y) (row_whole y.matrix shape.1 shape.2));
  }

-- a matrix that is square and not too large is of the shape that is wanted
inverse_fits : (A : Matrix) → A.height ≡ A.width → A.height ≤ LARGEST_INVERTED → misfit task.Inverse (A ∷ []) ≡ None
inverse_fits A square narrow = grind (arith, nat_tests)

pub inverse_answers : (c : Command) (p : ℕ) (A : Matrix) (b : ResidueMatrix) → A.height ≡ A.width → A.height ≤ LARGEST_INVERTED → HasInversionShape p A.width (inversion.Found b) →
    (IsPrime p → IsInversion p A (inversion.Found b)) → IsAnswerTo (asking task.Inverse p c) (matrices_alone (A ∷ [])) (answer.Inverse b)
inverse_answers c p A b square narrow shape inverse = record {
  small = (omega (arith, shape.2), omega (arith, shape.3));
  fits = inverse_fits A square narrow;
  ends = refl;
  shape = inl (b.matrix, shape.1, shape.2, shape.3, refl);
  answers = λ prime. inl (b.matrix, inverse prime, refl);
}

-- a null vector answers for a matrix without an inverse
pub singular_answers : (c : Command) (p : ℕ) (A : Matrix) (v : ResidueMatrix) → A.height ≡ A.width → A.height ≤ LARGEST_INVERTED → HasInversionShape p A.width (inversion.Singular v) →
    (IsPrime p → IsInversion p A (inversion.Singular v)) → IsAnswerTo (asking task.Inverse p c) (matrices_alone (A ∷ [])) (answer.Singular v)
singular_answers c p A v square narrow shape singular = record {
  small = (omega (arith, shape.2), omega (arith, shape.3));
  fits = inverse_fits A square narrow;
  ends = refl;
  shape = inr (v.matrix, shape.1, shape.2, shape.3, refl);
  answers = λ prime.
      let (none, null, nonzero, (K, kernel, some, same)) = singular prime in
      inr (K, none, kernel, some, ap (λ V. codes "singular\n" ++ text_of V) (row_whole v.matrix shape.1 shape.2 ∙ ap as_row same));
}

-- a system's answer
pub one_solution : (p : ℕ) (A : Matrix) (b x y : List ℕ) → 2 ≤ p → SolvesTo p A b x → SolvesTo p A b y → x ≡ y
one_solution p A b x y two (inl s) (inl t) =
    let same : s.0 ≡ t.0 = solution_unique p A b s.0 t.0 two s.1 t.1 in
    s.2 ∙ ap (λ v. codes "solution\n" ++ text_of (column_matrix v)) same ∙ sym t.2
one_solution p A b x y two (inl s) (inr t) = absurd (t.1 s.0 s.1.solves)
one_solution p A b x y two (inr s) (inl t) = absurd (s.1 t.0 t.1.solves)
one_solution p A b x y two (inr s) (inr t) =
    let same : s.0 ≡ t.0 = refutation_unique p A b s.0 t.0 two s.2 t.2 in
    s.3 ∙ ap (λ v. codes "no solution\n" ++ text_of (as_row v)) same ∙ sym t.3
