use Rattle.std.proofs.Common.{ℕ, ◌+◌, ◌∙◌, [], ap, subst, sym}
use Rattle.std.proofs.lemmas.List.{get_or_default}
use Rattle.residue_words.specs.Matrix.{Matrix}
use Rattle.lead_rows.specs.Accumulator.{IsClear}
use Rattle.lead_rows.specs.Leads.{IsSettled}
use Rattle.echelon_form.specs.Settling.{AreSettled}
use Rattle.echelon_form.proofs.Settled.{settled_more, settled_none}
use Rattle.grow_form.proofs.reduced_form.settle_all.Goals as goal

pub loop-t-init : goal.loop-t-init
loop-t-init c =
    let empty : ℕ → Matrix = λ n. record { height = 0; width = n; rows = [] } in
    record {
      modulus = c.in_ok-rows.ensures.modulus ∙ c.modulus-2.ensures;
      settled = settled_none c.args.kept.now c.args.order.now c.in_ok-rows.rows.matrix (c.in_ok-rows.ensures.matrix ∙ ap empty c.width-2.ensures);
      clear = subst (λ p. IsClear p c.args.kept.now.matrix.width c.in_ok-accumulator.accumulator) c.modulus.ensures
          (subst (λ n. IsClear c.modulus.result n c.in_ok-accumulator.accumulator) c.width.ensures c.in_ok-accumulator.ensures);
    }

pub loop-t-preserved : goal.loop-t-preserved
loop-t-preserved c = record {
  modulus = c.append.ensures.modulus ∙ c.loop-t.invariant.modulus;
  settled = subst (AreSettled c.args.kept.now c.args.order.now (c.loop-t.t + 1)) (sym c.in_ok-append.ensures.matrix)
      (settled_more c.in_ok-settle_with.field-0 c.loop-t.invariant.settled (λ d. record {
        modulus = c.in_ok-settle_with.ensures.modulus;
        settled = subst (λ (x : ℕ × ℕ). IsSettled c.args.kept.now x.1 c.in_ok-settle_with.field-0.row)
            (get_or_default c.args.order.now c.loop-t.t (0, 0) d c.loop-t-test.true) c.in_ok-settle_with.ensures.settled;
      }));
  clear = c.settle_with.ensures.clear ∙ c.loop-t.invariant.clear;
}
