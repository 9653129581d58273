-- The inverse, or a null vector if there is none.
use Rattle.std.proofs.Common.{ℕ, arith, subst}
use Rattle.residue_words.specs.Matrix.{Matrix}
use Rattle.spasm_lib.specs.Inversion.{HasInversionShape, IsInversion}
use Rattle.spasm_run.proofs.Solving.{inverse_answers, singular_answers}
use Rattle.spasm_run.proofs.commands.find_inverse.Goals as goal

pub returns-in-Found : goal.returns-in-Found
returns-in-Found g c =
    let p : ℕ = c.args.a.now.modulus in
    let A : Matrix = c.args.a.now.matrix in
    let found = c.in_ok-b in
    inverse_answers c.args.command p A c.in-Found.b
    (omega (arith, c.height-height.ensures.value, c.width-width.ensures.value)) (omega (arith, c.height-height.ensures.value))
    (subst (HasInversionShape p A.width) c.in-Found.is found.ensures.shape) (λ prime. subst (IsInversion p A) c.in-Found.is (found.ensures.inversion prime))

pub returns-in-Singular : goal.returns-in-Singular
returns-in-Singular g c =
    let p : ℕ = c.args.a.now.modulus in
    let A : Matrix = c.args.a.now.matrix in
    let found = c.in_ok-b in
    singular_answers c.args.command p A c.in-Singular.v
    (omega (arith, c.height-height.ensures.value, c.width-width.ensures.value)) (omega (arith, c.height-height.ensures.value))
    (subst (HasInversionShape p A.width) c.in-Singular.is found.ensures.shape) (λ prime. subst (IsInversion p A) c.in-Singular.is (found.ensures.inversion prime))
