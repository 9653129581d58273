use Rattle.std.proofs.Common.{ℕ, ◌+◌, ◌∙◌, [], ap, arith, subst, sym}
use Rattle.residue_words.specs.Matrix.{Matrix}
use Rattle.echelon_form.specs.Settling.{AreSettled}
use Rattle.echelon_form.proofs.Gathering.{shared_row}
use Rattle.echelon_form.proofs.Settled.{settled_more, settled_none}
use Rattle.echelon_form.proofs.settle.merged.Goals as goal

pub loop-t-init : goal.loop-t-init
loop-t-init c =
    let empty : ℕ → Matrix = λ n. record { height = 0; width = n; rows = [] } in
    record {
      modulus = c.in_ok-rows.ensures.modulus ∙ c.modulus.ensures;
      settled = settled_none c.args.kept.now c.args.order.now c.in_ok-rows.rows.matrix (c.in_ok-rows.ensures.matrix ∙ ap empty c.width.ensures);
    }

pub append-requires-clause-height_small : goal.append-requires-clause-height_small
append-requires-clause-height_small c = omega (arith, c.loop-t.invariant.settled.height, c.requires.order.long, c.height.ensures.value, c.height.ensures.bound, c.requires.sound.width_small)

pub append-requires-clause-modulus : goal.append-requires-clause-modulus
append-requires-clause-modulus c =
    (shared_row c.args.kept.now c.args.order.now c.args.shares.now c.requires.some c.requires.shares c.loop-t.t c.loop-t-test.true c.index-shares-t.result c.in-Ok.share c.index.result.now c.index-shares-t.is c.in-Ok.is c.index.ensures (0, 0)).modulus
    ∙ sym c.loop-t.invariant.modulus

pub append-requires-clause-width : goal.append-requires-clause-width
append-requires-clause-width c =
    (shared_row c.args.kept.now c.args.order.now c.args.shares.now c.requires.some c.requires.shares c.loop-t.t c.loop-t-test.true c.index-shares-t.result c.in-Ok.share c.index.result.now c.index-shares-t.is c.in-Ok.is c.index.ensures (0, 0)).settled.vector.len
    ∙ sym c.loop-t.invariant.settled.width

pub loop-t-preserved : goal.loop-t-preserved
loop-t-preserved c = record {
  modulus = c.append.ensures.modulus ∙ c.loop-t.invariant.modulus;
  settled = subst (AreSettled c.args.kept.now c.args.order.now (c.loop-t.t + 1)) (sym c.in_ok-append-in-Ok.ensures.matrix)
      (settled_more c.index.result.now c.loop-t.invariant.settled
      (shared_row c.args.kept.now c.args.order.now c.args.shares.now c.requires.some c.requires.shares c.loop-t.t c.loop-t-test.true c.index-shares-t.result c.in-Ok.share c.index.result.now c.index-shares-t.is c.in-Ok.is c.index.ensures));
}
