use Rattle.std.proofs.Common.{◌+◌, ◌*◌, ◌%◌, ◌∙◌, ap, get_or, arith}
use Rattle.std.proofs.Math.Nat.{add-mod-mod}
use Rattle.dense_rows.proofs.Adding.{added_one, added_all}
use Rattle.dense_rows.proofs.row_addition.axpy_plainly.Goals as goal

pub loop-k-preserved : goal.loop-k-preserved
loop-k-preserved c =
    let k = c.loop-k.k in
    let x = c.loop-k.out in
    let y = c.args.y.now in
    let p = c.args.p.now in
    added_one p c.args.a c.args.out.now y x k c.add.result c.loop-k.invariant (omega (arith, c.loop-k-test.true))
    (c.add.ensures.value ∙ ap (λ t. (get_or x k 0 + t) % p) c.mul.ensures.value ∙ add-mod-mod (get_or x k 0) (c.args.a * get_or y k 0) p)

pub returns : goal.returns
returns c = added_all c.args.p.now c.args.a c.args.out.now c.args.y.now c.loop-k.out c.loop-k.k (omega (arith, c.loop-k-test.false)) c.loop-k.invariant
