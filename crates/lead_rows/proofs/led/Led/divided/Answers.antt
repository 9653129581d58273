use Rattle.std.proofs.Common.{◌≡◌, ◌<◌, ◌≤◌, ◌+◌, ◌*◌, ◌%◌, length, slice_index, slice_set, ap, subst, sym, arith, ◌∙◌}
use Rattle.residue_words.specs.Residues.{IsPrime}
use Rattle.residue_words.specs.Matrix.{zeros}
use Rattle.sparse_rows.specs.Rows.{support, nonzeros}
use Rattle.lead_rows.specs.Led.{IsTailOf}
use Rattle.lead_rows.proofs.Dividing.{IsListed, IsDividing, listed, dividing_all, dividing_behind, dividing_none, dividing_put, dividing_zero}
use Rattle.lead_rows.proofs.led.Led.divided.Goals as goal
use Rattle.lead_rows.proofs.led.Led.divided.Goals.{then-value-gt0+in_ok-push, else-value-gt0}

pub loop-k-init : goal.loop-k-init
loop-k-init c = (
  c.new-tail.ensures.modulus ∙ c.modulus-modulus.ensures.value,
  subst (IsDividing c.args.row.now.modulus c.args.row.now.row c.inv-factor.result 1) (sym (c.new-tail.ensures.row ∙ ap zeros c.width.ensures.value))
      (dividing_none c.args.row.now.modulus c.args.row.now.row c.inv-factor.result (omega (arith, c.modulus-modulus.ensures.two_or_more, c.modulus-modulus.ensures.value))),
)

pub push-requires-clause-behind : goal.push-requires-clause-behind
push-requires-clause-behind c = λ j le l.
    let s : IsListed c.args.row.now.modulus c.args.row.now.row = listed c.width.ensures.sound in
    let inside : c.loop-k.k < length (support c.args.row.now.row) = subst (λ u. c.loop-k.k < length u) c.cols-cols.ensures.support c.loop-k-test.true in
    dividing_behind s c.loop-k.invariant.1 inside j (subst (λ u. slice_index u c.loop-k.k ≤ j) c.cols-cols.ensures.support le) (omega (arith, c.loop-k.invariant.1.vector.len))

pub loop-k-preserved : goal.loop-k-preserved
loop-k-preserved c =
    let s : IsListed c.args.row.now.modulus c.args.row.now.row = listed c.width.ensures.sound in
    let inside : c.loop-k.k < length (support c.args.row.now.row) = subst (λ u. c.loop-k.k < length u) c.cols-cols.ensures.support c.loop-k-test.true in
    let value : c.mul-value.result ≡ (c.inv-factor.result * slice_index (nonzeros c.args.row.now.row) c.loop-k.k) % c.args.row.now.modulus =
    c.mul-value.ensures.value ∙ ap (λ u. (c.inv-factor.result * slice_index u c.loop-k.k) % c.modulus-modulus.result) c.vals-vals.ensures.values
    ∙ ap (λ m. (c.inv-factor.result * slice_index (nonzeros c.args.row.now.row) c.loop-k.k) % m) c.modulus-modulus.ensures.value in
    elim c.if-value-gt0.branch [
      | then-value-gt0+in_ok-push w ↦
          let put : w.push.new.self.row ≡ slice_set c.loop-k.tail.row (slice_index (support c.args.row.now.row) c.loop-k.k) c.mul-value.result =
          w.in_ok-push.ensures.ok ∙ ap (λ u. slice_set c.loop-k.tail.row (slice_index u c.loop-k.k) c.mul-value.result) c.cols-cols.ensures.support in
          rw w.tail-is (
            w.push.ensures.modulus ∙ c.loop-k.invariant.0,
            subst (IsDividing c.args.row.now.modulus c.args.row.now.row c.inv-factor.result (c.loop-k.k + 1)) (sym put)
                (dividing_put (omega (arith, c.modulus-modulus.ensures.two_or_more, c.modulus-modulus.ensures.value)) s c.loop-k.invariant.1 (omega arith) inside c.mul-value.result value),
          )
      | else-value-gt0 w ↦
          let none : 0 ≡ c.mul-value.result = omega arith in
          rw w.tail-is (c.loop-k.invariant.0, dividing_zero s c.loop-k.invariant.1 inside (none ∙ value))
    ]

pub returns-clause-tail : goal.returns-clause-tail
returns-clause-tail c =
    let s : IsListed c.args.row.now.modulus c.args.row.now.row = listed c.width.ensures.sound in
    let all : c.loop-k.k ≡ length (support c.args.row.now.row) = omega (arith, ap length c.cols-cols.ensures.support) in
    let inverse : IsPrime c.args.row.now.modulus → (slice_index (nonzeros c.args.row.now.row) 0 * c.inv-factor.result) % c.args.row.now.modulus ≡ 1 =
    subst (λ u. IsPrime c.args.row.now.modulus → (slice_index u 0 * c.inv-factor.result) % c.args.row.now.modulus ≡ 1) c.vals-vals.ensures.values
    (subst (λ m. IsPrime m → (slice_index c.vals-vals.result.now 0 * c.inv-factor.result) % m ≡ 1) c.modulus-modulus.ensures.value c.inv-factor.ensures.inverse) in
    subst (λ u. IsTailOf c.args.row.now.modulus c.args.row.now.row u c.loop-k.tail.row) (ap (λ u. slice_index u 0) (sym c.cols-cols.ensures.support))
    (dividing_all (omega (arith, c.modulus-modulus.ensures.two_or_more, c.modulus-modulus.ensures.value)) s
    (subst (λ k. IsDividing c.args.row.now.modulus c.args.row.now.row c.inv-factor.result k c.loop-k.tail.row) all c.loop-k.invariant.1) c.requires inverse)
