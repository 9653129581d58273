use Rattle.std.proofs.Common.{◌≡◌, ◌+◌, ◌*◌, ◌%◌, ◌<◌, ◌≤◌, ℕ, List, length, slice_index, ap, ap₂, ◌∙◌, arith}
use Rattle.residue_words.specs.Matrix.{row}
use Rattle.sparse_rows.specs.Rows.{ResidueMatrix, nonzeros, support}
use Rattle.sparse_rows.proofs.Loops.{sparse_dot, sparse_dot_all}
use Rattle.kernel_solve.proofs.Free.{rising_bound}
use Rattle.kernel_solve.proofs.Substituting.{dot_more, dot_none, product_small}
use Rattle.kernel_solve.proofs.substitution.row_times.Goals as goal

pub loop-k-init : goal.loop-k-init
loop-k-init c = (dot_none c.cols-cols.result.now c.vals-vals.result.now c.args.x.now, omega arith)

pub overflow_add-sum : goal.overflow_add-sum
overflow_add-sum c =
    let k : ℕ = c.loop-k.k in
    let cols : List ℕ = c.cols-cols.result.now in
    let j : ℕ = slice_index cols k in
    let many : length cols ≤ c.args.rows.now.matrix.width = rising_bound cols c.args.rows.now.matrix.width c.cols-cols.ensures.below_width c.cols-cols.ensures.ascending in
    let inside : j < c.args.rows.now.matrix.width = c.cols-cols.ensures.below_width k c.loop-k-test.true in
    let small : c.from.result * c.from-in-loop-k.result ≤ 79228162514264337593543950336 = product_small c.from.result c.from-in-loop-k.result
    (omega (arith, c.from.ensures, c.vals-vals.ensures.residues k (omega (arith, c.loop-k-test.true, c.cols-cols.ensures.same_length, ap length c.vals-vals.ensures.values)), c.modulus.ensures.value, c.modulus.ensures.in_range))
    (omega (arith, c.from-in-loop-k.ensures, c.requires.column.residues j inside, c.modulus.ensures.value, c.modulus.ensures.in_range)) in
    record { fits = omega (arith, small, many, c.loop-k.invariant.1, c.loop-k-test.true, c.is_sound.ensures.width) }

pub loop-k-preserved : goal.loop-k-preserved
loop-k-preserved c =
    let k : ℕ = c.loop-k.k in
    let cols : List ℕ = c.cols-cols.result.now in
    let j : ℕ = slice_index cols k in
    let inside : j < c.args.rows.now.matrix.width = c.cols-cols.ensures.below_width k c.loop-k-test.true in
    let small : c.from.result * c.from-in-loop-k.result ≤ 79228162514264337593543950336 = product_small c.from.result c.from-in-loop-k.result
    (omega (arith, c.from.ensures, c.vals-vals.ensures.residues k (omega (arith, c.loop-k-test.true, c.cols-cols.ensures.same_length, ap length c.vals-vals.ensures.values)), c.modulus.ensures.value, c.modulus.ensures.in_range))
    (omega (arith, c.from-in-loop-k.ensures, c.requires.column.residues j inside, c.modulus.ensures.value, c.modulus.ensures.in_range)) in (
      ap₂ (λ s t. s + t) c.loop-k.invariant.0 (ap₂ (λ s t. s * t) c.from.ensures c.from-in-loop-k.ensures) ∙ dot_more cols c.vals-vals.result.now c.args.x.now k,
      omega (arith, small, c.loop-k.invariant.1),
    )

pub returns-clause-value : goal.returns-clause-value
returns-clause-value c =
    let M : ResidueMatrix = c.args.rows.now in
    let v : List ℕ = row M.matrix c.args.i in
    let all : c.loop-k.k ≡ length (support v) = omega (arith, c.loop-k-test.false, c.loop-k.auto.k-end, ap length c.cols-cols.ensures.support) in
    let sums : sparse_dot c.cols-cols.result.now c.vals-vals.result.now c.args.x.now c.loop-k.k ≡ sparse_dot (support v) (nonzeros v) c.args.x.now (length (support v)) =
    rw (c.cols-cols.ensures.support, c.vals-vals.ensures.values) (ap (sparse_dot (support v) (nonzeros v) c.args.x.now) all) in
    ap₂ (λ s p. s % p) (c.loop-k.invariant.0 ∙ sums ∙ sparse_dot_all (c.modulus.ensures.sound.each c.args.i c.requires.row) c.args.x.now) (c.from-p.ensures ∙ c.p.ensures.value ∙ c.modulus.ensures.value)
