use Rattle.std.proofs.Common.{ℕ, ◌≡◌, ◌+◌, ◌∙◌, List, ap, ap₂, arith, slice_set}
use Rattle.std.proofs.lemmas.Result.{IfOk-weaker}
use Rattle.residue_words.specs.Matrix.{Matrix, zeros}
use Rattle.sparse_rows.specs.Rows.{transposed}
use Rattle.kernel_solve.proofs.Read.{refuting_put}
use Rattle.kernel_solve.proofs.systems.refuting_system.Goals as goal

pub append_one-requires-clause-column : goal.append_one-requires-clause-column
append_one-requires-clause-column c = omega (arith, ap (λ m. m.width) c.in_ok-system.ensures.matrix, c.requires.column, c.width.ensures.value)

pub returns-clause-matrix : goal.returns-clause-matrix
returns-clause-matrix c =
    let A : Matrix = c.args.a.now.matrix in
    let S : Matrix = c.in_ok-system.system.matrix in
    let last : List ℕ = slice_set (zeros S.width) c.width.result 1 in
    let width : S.width ≡ A.width + 1 = omega (arith, ap (λ m. m.width) c.in_ok-system.ensures.matrix, c.requires.column) in
    let set : last ≡ slice_set (zeros (A.width + 1)) A.width 1 = ap₂ (λ n j. slice_set (zeros n) j 1) width c.width.ensures.value in
    IfOk-weaker c.transpose.result _ _ (λ turned is. is ∙ ap transposed c.in_ok-append_one.ensures.matrix
    ∙ refuting_put c.args.a.now.modulus A c.args.b.now.matrix S last c.is_sound.ensures.entries c.requires.column c.requires.heights c.in_ok-system.ensures.matrix set) c.transpose.ensures.matrix
