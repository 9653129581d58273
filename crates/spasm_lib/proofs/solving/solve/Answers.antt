-- The system's solution, or what refutes it.
use Rattle.std.proofs.Common.{ℕ, subst, sym}
use Rattle.residue_words.specs.Matrix.{Matrix, IsMatrix}
use Rattle.kernel_solve.specs.Column.{column}
use Rattle.kernel_solve.specs.Found.{Answers}
use Rattle.spasm_lib.proofs.Systems.{solution_shaped, told_of}
use Rattle.spasm_lib.proofs.solving.solve.Goals as goal

pub returns-in-Solution-clause-shape : goal.returns-in-Solution-clause-shape
returns-in-Solution-clause-shape g c =
    let system = c.in_ok-beside in
    let found = c.in_ok-x in
    solution_shaped c.args.a.now.modulus c.args.a.now.matrix c.args.b.now.matrix _ _ found.field-0 c.in-Solution.x c.requires.column
    system.ensures.modulus system.ensures.matrix found.ensures.shape c.in-Solution.is

pub returns-in-Solution-clause-solved : goal.returns-in-Solution-clause-solved
returns-in-Solution-clause-solved g c = λ prime.
    let p : ℕ = c.args.a.now.modulus in
    let A : Matrix = c.args.a.now.matrix in
    let B : Matrix = c.args.b.now.matrix in
    let side : IsMatrix p B = subst (λ q. IsMatrix q B) (sym c.requires.moduli) c.is_sound-2.ensures.entries in
    let system = c.in_ok-beside in
    let found = c.in_ok-x in
    let told = told_of p A B c.is_sound.ensures.entries side c.requires.heights c.requires.column _ _ found.field-0 prime
    system.ensures.modulus system.ensures.matrix found.ensures.tells in
    (subst (Answers p A (column B)) c.in-Solution.is told).1

pub returns-in_ok-y-in-Inconsistent-clause-shape : goal.returns-in_ok-y-in-Inconsistent-clause-shape
returns-in_ok-y-in-Inconsistent-clause-shape g c = c.in_ok-y-in-Inconsistent.ensures.shape

pub returns-in_ok-y-in-Inconsistent-clause-solved : goal.returns-in_ok-y-in-Inconsistent-clause-solved
returns-in_ok-y-in-Inconsistent-clause-solved g c = λ prime.
    let p : ℕ = c.args.a.now.modulus in
    let A : Matrix = c.args.a.now.matrix in
    let B : Matrix = c.args.b.now.matrix in
    let side : IsMatrix p B = subst (λ q. IsMatrix q B) (sym c.requires.moduli) c.is_sound-2.ensures.entries in
    let system = c.in_ok-beside in
    let found = c.in_ok-x in
    let told = told_of p A B c.is_sound.ensures.entries side c.requires.heights c.requires.column _ _ found.field-0 prime
    system.ensures.modulus system.ensures.matrix found.ensures.tells in
    let none = subst (Answers p A (column B)) c.in-Inconsistent.is told in
    (none, c.in_ok-y-in-Inconsistent.ensures.refutes prime none)
