use Rattle.std.proofs.Common.{◌≡◌, ◌+◌, ◌<◌, ◌≤◌, ◌∙◌, length, slice_index, slice_set, ap, ap₂, subst, sym, arith}
use Rattle.residue_words.specs.Matrix.{zeros}
use Rattle.sparse_rows.specs.Rows.{support, nonzeros}
use Rattle.lead_rows.proofs.Behind.{IsMoving, moving_all, moving_behind, moving_none, moving_put}
use Rattle.lead_rows.proofs.Dividing.{IsListed, listed}
use Rattle.lead_rows.proofs.led.Led.behind_zeros.Goals as goal

pub loop-k-init : goal.loop-k-init
loop-k-init c = (
  c.in_ok-tail.ensures.modulus ∙ c.modulus.ensures.value,
  subst (IsMoving c.args.self.now.tail.modulus c.args.count c.args.self.now.tail.row 0) (sym (c.in_ok-tail.ensures.row ∙ ap (λ n. zeros (c.args.count + n)) c.width.ensures.value))
      (moving_none c.args.self.now.tail.modulus c.args.count c.args.self.now.tail.row (omega (arith, c.modulus.ensures.two_or_more, c.modulus.ensures.value))),
)

pub push-requires-clause-behind : goal.push-requires-clause-behind
push-requires-clause-behind c = λ j le l.
    let s : IsListed c.args.self.now.tail.modulus c.args.self.now.tail.row = listed c.width.ensures.sound in
    let inside : c.loop-k.k < length (support c.args.self.now.tail.row) = subst (λ u. c.loop-k.k < length u) c.cols-cols.ensures.support c.loop-k-test.true in
    moving_behind s c.loop-k.invariant.1 inside j (subst (λ u. c.args.count + slice_index u c.loop-k.k ≤ j) c.cols-cols.ensures.support le) (omega (arith, c.loop-k.invariant.1.vector.len))

pub loop-k-preserved : goal.loop-k-preserved
loop-k-preserved c =
    let s : IsListed c.args.self.now.tail.modulus c.args.self.now.tail.row = listed c.width.ensures.sound in
    let inside : c.loop-k.k < length (support c.args.self.now.tail.row) = subst (λ u. c.loop-k.k < length u) c.cols-cols.ensures.support c.loop-k-test.true in
    let put : c.push.new.self.row ≡ slice_set c.loop-k.tail.row (c.args.count + slice_index (support c.args.self.now.tail.row) c.loop-k.k) (slice_index (nonzeros c.args.self.now.tail.row) c.loop-k.k) =
    c.in_ok-push.ensures.ok ∙ ap₂ (λ cs vs. slice_set c.loop-k.tail.row (c.args.count + slice_index cs c.loop-k.k) (slice_index vs c.loop-k.k)) c.cols-cols.ensures.support c.vals-vals.ensures.values in
    let small : slice_index (nonzeros c.args.self.now.tail.row) c.loop-k.k < c.args.self.now.tail.modulus =
    subst (λ vs. slice_index vs c.loop-k.k < c.args.self.now.tail.modulus) c.vals-vals.ensures.values
    (c.vals-vals.ensures.residues c.loop-k.k (omega (arith, inside, c.vals-vals.ensures.same_length))) in (
      c.push.ensures.modulus ∙ c.loop-k.invariant.0,
      subst (IsMoving c.args.self.now.tail.modulus c.args.count c.args.self.now.tail.row (c.loop-k.k + 1)) (sym put) (moving_put s c.loop-k.invariant.1 inside small),
    )

pub returns-clause-tail : goal.returns-clause-tail
returns-clause-tail c =
    let s : IsListed c.args.self.now.tail.modulus c.args.self.now.tail.row = listed c.width.ensures.sound in
    let all : c.loop-k.k ≡ length (support c.args.self.now.tail.row) = omega (arith, ap length c.cols-cols.ensures.support) in
    moving_all s (subst (λ k. IsMoving c.args.self.now.tail.modulus c.args.count c.args.self.now.tail.row k c.loop-k.tail.row) all c.loop-k.invariant.1)
