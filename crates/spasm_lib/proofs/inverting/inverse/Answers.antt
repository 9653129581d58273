-- The inverse, or a null vector if there is none.
use Rattle.std.proofs.Common.{◌≡◌, ◌∙◌, ℕ, Option, subst}
use Rattle.std.specs.Option.{IfSome}
use Rattle.residue_words.specs.Matrix.{Matrix, IsMatrix, row}
use Rattle.sparse_rows.specs.Rows.{ResidueMatrix}
use Rattle.kernel_solve.specs.Inverted.{IsSquareOf, TellsInverse}
use Rattle.kernel_solve.proofs.Inverting.{singular_shown}
use Rattle.spasm_lib.proofs.inverting.inverse.Goals as goal

pub returns-in-Some-clause-shape : goal.returns-in-Some-clause-shape
returns-in-Some-clause-shape g c =
    subst (λ (o : Option ResidueMatrix). IfSome o (IsSquareOf c.args.a.now.modulus c.args.a.now.matrix.width)) c.in-Some.is c.in_ok-b.ensures.shape

pub returns-in-Some-clause-inversion : goal.returns-in-Some-clause-inversion
returns-in-Some-clause-inversion g c = λ prime.
    subst (TellsInverse c.args.a.now.modulus c.args.a.now.matrix) c.in-Some.is (c.in_ok-b.ensures.tells prime)

pub returns-in_ok-v-in-None-clause-shape : goal.returns-in_ok-v-in-None-clause-shape
returns-in_ok-v-in-None-clause-shape g c =
    let p : ℕ = c.args.a.now.modulus in
    let v = c.in_ok-v-in-None in
    let form = c.in_ok-form-in-None in
    let modulus : v.v.modulus ≡ p = v.ensures.modulus ∙ form.ensures.modulus in
    (modulus, subst (λ q. IsMatrix q v.v.matrix) modulus v.ensures.sound, v.ensures.height, v.ensures.width ∙ form.ensures.width)

pub returns-in_ok-v-in-None-clause-inversion : goal.returns-in_ok-v-in-None-clause-inversion
returns-in_ok-v-in-None-clause-inversion g c = λ prime.
    let p : ℕ = c.args.a.now.modulus in
    let A : Matrix = c.args.a.now.matrix in
    let v = c.in_ok-v-in-None in
    let (null, nonzero, first) = singular_shown p A v.v.matrix (subst (TellsInverse p A) c.in-None.is (c.in_ok-b.ensures.tells prime)) (v.ensures.first p A prime c.in_ok-form-in-None.ensures) in
    (λ B inverse. nonzero (c.inverse_excludes_null.ensures p A B (row v.v.matrix 0) inverse null), null, nonzero, first)
