-- The refuting system's solution refutes.
use Rattle.std.proofs.Common.{◌≡◌, ◌∙◌, ℕ, ap, arith, subst, sym}
use Rattle.residue_words.specs.Matrix.{Matrix, IsMatrix, row}
use Rattle.row_space.specs.Solution.{IsRefutingCombination}
use Rattle.kernel_solve.specs.Column.{column}
use Rattle.kernel_solve.specs.Found.{HasShape}
use Rattle.spasm_lib.proofs.Systems.{never_inconsistent, refuted_by, transposed_column}
use Rattle.spasm_lib.proofs.solving.refutation.Goals as goal

pub returns-in_ok-row-in-Solution-clause-shape : goal.returns-in_ok-row-in-Solution-clause-shape
returns-in_ok-row-in-Solution-clause-shape g c =
    let system = c.in_ok-refuting_system in
    let shape = subst (HasShape system.field-0.modulus system.field-0.matrix.width) c.in-Solution.is c.in_ok-y.ensures.shape in
    let y = c.in_ok-row-in-Solution in
    let modulus = y.ensures.modulus ∙ shape.0 ∙ system.ensures.modulus in (
      modulus,
      subst (λ q. IsMatrix q y.row.matrix) modulus c.is_sound-in-Solution.ensures.entries,
      ap (λ (M : Matrix). M.height) y.ensures.matrix ∙ shape.3,
      omega (arith, ap (λ (M : Matrix). M.width) y.ensures.matrix, shape.2, ap (λ (M : Matrix). M.width) system.ensures.matrix),
    )

pub returns-in_ok-row-in-Solution-clause-refutes : goal.returns-in_ok-row-in-Solution-clause-refutes
returns-in_ok-row-in-Solution-clause-refutes g c = λ prime none.
    let p : ℕ = c.args.a.now.modulus in
    let A : Matrix = c.args.a.now.matrix in
    let B : Matrix = c.args.b.now.matrix in
    let side : IsMatrix p B = subst (λ q. IsMatrix q B) (sym c.requires.moduli) c.is_sound-2.ensures.entries in
    let system = c.in_ok-refuting_system in
    let found = c.in_ok-y in
    let y = c.in-Solution.y in
    let shape = subst (HasShape system.field-0.modulus system.field-0.matrix.width) c.in-Solution.is found.ensures.shape in
    let same : row c.in_ok-row-in-Solution.row.matrix 0 ≡ column y.matrix = ap (λ m. row m 0) c.in_ok-row-in-Solution.ensures.matrix ∙ transposed_column y.matrix shape.3 in
    subst (λ v. IsRefutingCombination p A (column B) v) (sym same)
    (refuted_by p A B c.is_sound.ensures.entries side c.requires.heights c.requires.column _ _ found.field-0 y prime
    c.refuting_system_refutes.ensures system.ensures.modulus system.ensures.matrix found.ensures.tells c.in-Solution.is)

pub returns-in_ok-none-in-Inconsistent-clause-refutes : goal.returns-in_ok-none-in-Inconsistent-clause-refutes
returns-in_ok-none-in-Inconsistent-clause-refutes g c = λ prime none.
    let p : ℕ = c.args.a.now.modulus in
    let A : Matrix = c.args.a.now.matrix in
    let B : Matrix = c.args.b.now.matrix in
    let side : IsMatrix p B = subst (λ q. IsMatrix q B) (sym c.requires.moduli) c.is_sound-2.ensures.entries in
    let system = c.in_ok-refuting_system in
    let found = c.in_ok-y in
    absurd (never_inconsistent p A B c.is_sound.ensures.entries side c.requires.heights c.requires.column _ _ found.field-0 prime
    c.refuting_system_refutes.ensures c.refuting_is_solvable.ensures system.ensures.modulus system.ensures.matrix found.ensures.tells c.in-Inconsistent.is none)
