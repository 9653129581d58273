use Rattle.std.proofs.Common.{ℕ, map, ◌≡◌, ◌≤◌, ◌+◌, ◌*◌, ◌∙◌, ◌%◌, length, arith}
use Rattle.std.proofs.lemmas.List.{length-map, get_or-map}
use Rattle.dense_rows.proofs.Adding.{added_more}
use Rattle.dense_rows.proofs.lane_addition.add_vectors_64.Goals as goal

pub loop-out-preserved : goal.loop-out-preserved
loop-out-preserved c =
    let at = c.loop-out.at in
    let v = c.sums-sums.result in
    let p = c.args.by.now.p in
    let a = c.args.by.now.factor in
    let long : length c.loop-out.out ≡ length c.args.out.now = c.loop-out.invariant.1.long in
    let long_v : length v ≡ 8 = omega arith in
    let room : at + 8 ≤ length c.args.out.now = omega (arith, c.loop-out-test.true) in (
      room,
      added_more p a c.args.out.now c.args.y.now c.loop-out.out (map (λ (x : ℕ). x) v) at 8 c.loop-out.invariant.1 room (length-map v (λ (x : ℕ). x) ∙ long_v)
          (λ k l. get_or-map (λ (x : ℕ). x) v k 0 0 (omega arith)
          ∙ c.sums-sums.ensures k l
          ∙ (λ i. (c.narrowed.ensures k l i + a * c.narrowed-in-loop-out.ensures k l i) % p)),
    )
