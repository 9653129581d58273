use Rattle.std.proofs.Common.{◌≡◌, ◌≤◌, ◌+◌, ◌*◌, ◌∙◌, ◌%◌, ap, get_or, length, arith}
use Rattle.std.specs.Simd.Lanes.{chunk}
use Rattle.std.proofs.lemmas.Simd.{get_or-chunk}
use Rattle.dense_rows.proofs.Adding.{added_more}
use Rattle.dense_rows.proofs.lane_addition.add_vectors_32.Goals as goal

pub sums-sums-requires : goal.sums-sums-requires
sums-sums-requires c = λ k l.
    let at = c.loop-out.at in
    let long : length c.loop-out.out ≡ length c.args.out.now = c.loop-out.invariant.1.long in
    let is : get_or c.loop-out.out (at + k) 0 ≡ get_or c.args.out.now (at + k) 0 = c.loop-out.invariant.1.kept (at + k) (omega arith) in
    omega (arith, get_or-chunk at 8 c.loop-out.out k 0 l, c.requires.residues (at + k) (omega (arith, c.loop-out-test.true)))

pub loop-out-preserved : goal.loop-out-preserved
loop-out-preserved c =
    let at = c.loop-out.at in
    let long : length c.loop-out.out ≡ length c.args.out.now = c.loop-out.invariant.1.long in
    let room : at + 8 ≤ length c.args.out.now = omega (arith, c.loop-out-test.true) in (
      room,
      added_more c.args.by.now.p c.args.by.now.factor c.args.out.now c.args.y.now c.loop-out.out c.sums-sums.result at 8 c.loop-out.invariant.1 room (omega arith)
          (λ k l. c.sums-sums.ensures k l
          ∙ ap (λ t. (t + c.args.by.now.factor * get_or (chunk at 8 c.args.y.now) k 0) % c.args.by.now.p) (get_or-chunk at 8 c.loop-out.out k 0 l)
          ∙ ap (λ t. (get_or c.loop-out.out (at + k) 0 + c.args.by.now.factor * t) % c.args.by.now.p) (get_or-chunk at 8 c.args.y.now k 0 l)),
    )
