-- The system's solution, or what refutes it.
use Rattle.std.proofs.Common.{◌≡◌, ℕ, arith, subst}
use Rattle.residue_words.specs.Matrix.{Matrix}
use Rattle.kernel_solve.specs.Column.{column}
use Rattle.spasm_lib.specs.Solved.{HasSolutionShape, IsSolved}
use Rattle.spasm_run.proofs.Solving.{refutation_answers, solution_answers}
use Rattle.spasm_run.proofs.commands.find_solution.Goals as goal

pub returns-in-Found : goal.returns-in-Found
returns-in-Found g c =
    let p : ℕ = c.args.a.now.modulus in
    let A : Matrix = c.args.a.now.matrix in
    let B : Matrix = c.args.b.now.matrix in
    let heights : A.height ≡ B.height = omega (arith, c.height-height.ensures.value, c.height.ensures.value) in
    let narrow : B.width ≡ 1 = omega (arith, c.width-width.ensures.value) in
    let found = c.in_ok-x in
    solution_answers p A B heights narrow c.args.command c.in-Found.x c.requires.width
    (subst (HasSolutionShape p A) c.in-Found.is found.ensures.shape) (λ prime. subst (IsSolved p A (column B)) c.in-Found.is (found.ensures.solved prime))

pub returns-in-Refuted : goal.returns-in-Refuted
returns-in-Refuted g c =
    let p : ℕ = c.args.a.now.modulus in
    let A : Matrix = c.args.a.now.matrix in
    let B : Matrix = c.args.b.now.matrix in
    let heights : A.height ≡ B.height = omega (arith, c.height-height.ensures.value, c.height.ensures.value) in
    let narrow : B.width ≡ 1 = omega (arith, c.width-width.ensures.value) in
    let found = c.in_ok-x in
    refutation_answers p A B heights narrow c.args.command c.in-Refuted.y c.requires.height
    (subst (HasSolutionShape p A) c.in-Refuted.is found.ensures.shape) (λ prime. subst (IsSolved p A (column B)) c.in-Refuted.is (found.ensures.solved prime))
