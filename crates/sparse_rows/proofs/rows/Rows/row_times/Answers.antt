use Rattle.std.proofs.Common.{ℕ, ◌≡◌, ◌%◌, ◌∙◌, List, ap, arith, length}
use Rattle.residue_words.specs.Matrix.{IsMatrix, row}
use Rattle.sparse_rows.specs.Rows.{ResidueMatrix, nonzeros, support}
use Rattle.sparse_rows.proofs.Loops.{sparse_dot, sparse_dot_all, sparse_dot_more, sparse_dot_none}
use Rattle.sparse_rows.proofs.rows.Rows.row_times.Goals as goal

pub loop-k-init : goal.loop-k-init
loop-k-init c = sparse_dot_none _ _ _ _

pub loop-k-preserved : goal.loop-k-preserved
loop-k-preserved c =
    let p : c.modulus-modulus.result ≡ c.args.self.now.modulus = c.modulus-modulus.ensures.value in
    sparse_dot_more c.args.self.now.modulus _ _ _ c.loop-k.k _ _ _ c.loop-k.invariant (rw p at c.mul-product.ensures.value) (rw p at c.add-sum.ensures.value)

pub returns : goal.returns
returns c =
    let M : ResidueMatrix = c.args.self.now in
    let v : List ℕ = row M.matrix c.args.i in
    let sound : IsMatrix M.modulus M.matrix = c.modulus-modulus.ensures.sound in
    let all : c.loop-k.k ≡ length (support v) = omega (arith, ap length c.cols-cols.ensures.support) in
    let sums : sparse_dot c.cols-cols.result.now c.vals-vals.result.now c.args.x.now c.loop-k.k ≡ sparse_dot (support v) (nonzeros v) c.args.x.now (length (support v)) =
    rw (c.cols-cols.ensures.support, c.vals-vals.ensures.values) (ap (sparse_dot (support v) (nonzeros v) c.args.x.now) all) in
    c.loop-k.invariant ∙ ap (λ t. t % M.modulus) (sums ∙ sparse_dot_all (sound.each c.args.i c.requires.row) c.args.x.now)
