use Rattle.std.proofs.Common.{◌≡◌, ◌≢◌, ◌*◌, ◌%◌, ℕ, length, sym, subst, arith}
use Rattle.residue_words.specs.Residues.{IsPrime}
use Rattle.residue_words.specs.Matrix.{entry}
use Rattle.sparse_rows.specs.Rows.{ResidueMatrix}
use Rattle.kernel_solve.specs.Substituted.{InvertEach, left_pivot, right_pivot}
use Rattle.kernel_solve.proofs.Substituting.{col_is, inverses_more, inverses_none, row_is}
use Rattle.kernel_solve.proofs.substitution.inverses.Goals as goal

pub loop-k-init : goal.loop-k-init
loop-k-init c = (inverses_none c.in_ok-in_left.ensures.items, inverses_none c.in_ok-in_right.ensures.items)

pub inverse_at-requires : goal.inverse_at-requires
inverse_at-requires c = omega (arith, row_is c.args.pivots.now c.loop-k.k (record { row = 0; col = 0 }) c.loop-k-test.true, c.requires.pivots c.loop-k.k c.loop-k-test.true)

pub loop-k-preserved : goal.loop-k-preserved
loop-k-preserved c =
    let L : ResidueMatrix = c.args.left.now in
    let U : ResidueMatrix = c.args.right.now in
    let k : ℕ = c.loop-k.k in
    let i : ℕ = c.inverse_at.result in
    let j : ℕ = c.inverse_at-in-loop-k.result in (
      inverses_more c.loop-k.invariant.0 i c.in_ok-push.ensures.items c.inverse_at.ensures.residue
          (subst (λ t. IsPrime L.modulus → entry L.matrix t k ≢ 0 → entry L.matrix t k * i % L.modulus ≡ 1) (sym (row_is c.args.pivots.now k (record { row = 0; col = 0 }) c.loop-k-test.true)) c.inverse_at.ensures.inverse),
      inverses_more c.loop-k.invariant.1 j c.in_ok-push-2.ensures.items c.inverse_at-in-loop-k.ensures.residue
          (subst (λ t. IsPrime U.modulus → entry U.matrix k t ≢ 0 → entry U.matrix k t * j % U.modulus ≡ 1) (sym (col_is c.args.pivots.now k (record { row = 0; col = 0 }) c.loop-k-test.true)) c.inverse_at-in-loop-k.ensures.inverse),
    )

pub returns-clause-left : goal.returns-clause-left
returns-clause-left c =
    let M : ResidueMatrix = c.args.left.now in
    let all : c.loop-k.k ≡ length c.args.pivots.now = omega (arith, c.loop-k-test.false, c.loop-k.auto.k-end) in
    subst (λ n. InvertEach M.modulus n (left_pivot M.matrix c.args.pivots.now) c.loop-k.in_left.items) all c.loop-k.invariant.0

pub returns-clause-right : goal.returns-clause-right
returns-clause-right c =
    let M : ResidueMatrix = c.args.right.now in
    let all : c.loop-k.k ≡ length c.args.pivots.now = omega (arith, c.loop-k-test.false, c.loop-k.auto.k-end) in
    subst (λ n. InvertEach M.modulus n (right_pivot M.matrix c.args.pivots.now) c.loop-k.in_right.items) all c.loop-k.invariant.1
