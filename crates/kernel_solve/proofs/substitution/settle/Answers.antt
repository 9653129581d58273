use Rattle.std.proofs.Common.{◌≡◌, ◌+◌, ◌-◌, ◌*◌, ◌%◌, ℕ, List, slice_set, ap, ◌∙◌, arith}
use Rattle.std.proofs.lemmas.List.{get_or-set_other, get_or-set_same}
use Rattle.residue_words.specs.Matrix.{row}
use Rattle.sparse_rows.specs.Rows.{ResidueMatrix}
use Rattle.kernel_solve.proofs.Substituting.{row_settled}
use Rattle.kernel_solve.proofs.substitution.settle.Goals as goal

pub returns-clause-solves : goal.returns-clause-solves
returns-clause-solves c = λ z one.
    let M : ResidueMatrix = c.args.rows.now in
    let p : ℕ = M.modulus in
    let is : c.modulus-modulus.result ≡ p = c.modulus-modulus.ensures.value in
    let x : List ℕ = c.args.x.now in
    let j : ℕ = c.args.j in
    row_settled p M.matrix.width (row M.matrix c.args.i) x (slice_set x j c.mul.result) j c.args.inverse c.row_times.result c.sub-rest.result c.args.b
    (omega (arith, is, c.modulus-modulus.ensures.two_or_more)) c.requires.column z (λ t d. get_or-set_other x j t c.mul.result 0 d) one c.row_times.ensures.value c.row_times.ensures.residue c.requires.side
    (c.sub-rest.ensures.value ∙ ap (λ n. (c.args.b + (n - c.row_times.result)) % n) is)
    (get_or-set_same x j c.mul.result 0 (omega (arith, c.requires.column, c.requires.vector.len)) ∙ c.mul.ensures.value ∙ ap (λ n. c.sub-rest.result * c.args.inverse % n) is)
