use Rattle.std.proofs.Common.{◌+◌, ◌-◌, ◌<◌, arith, length, sym, ap, ◌∙◌}
use Rattle.grow_form.specs.Growing.{without_rows}
use Rattle.grow_form.proofs.Spanning.{spans_all, spans_next, spans_none}
use Rattle.grow_form.proofs.grow.Grow.of.Goals as goal

pub append-requires : goal.append-requires
append-requires c =
    let s = c.loop-i.invariant.spans in
    record {
      long = c.cols.ensures.same_length ∙ ap length (sym c.vals.ensures.values);
      rising = c.cols.ensures.ascending;
      below = λ k l. omega (arith, c.cols.ensures.below_width k l, s.width);
      positive = c.vals.ensures.positive;
      residues = λ k l. omega (arith, c.vals.ensures.residues k l, s.modulus);
    }

pub loop-i-init : goal.loop-i-init
loop-i-init c = record {
  inside = omega arith;
  spans = spans_none c.args.rows.now c.in_ok-grow.grow
      (c.in_ok-grow.ensures ∙ ap (λ p. without_rows p c.width.result) c.modulus.ensures.value ∙ ap (without_rows c.args.rows.now.modulus) c.width.ensures.value);
}

pub loop-i-preserved : goal.loop-i-preserved
loop-i-preserved c = record {
  inside = omega (arith, c.in-Some.ensures.below);
  spans = spans_next c.args.rows.now c.loop-i.grow c.append.new.self c.loop-i.from c.in-Some.i c.cols.result.now c.vals.result.now c.in_ok-append.field-0
      c.is_sound.ensures.entries c.in-Some.ensures c.cols.ensures.support c.vals.ensures.values c.loop-i.invariant.spans c.in_ok-append.ensures.ok;
}

pub loop-i-smaller : goal.loop-i-smaller
loop-i-smaller c =
    let less : c.args.rows.now.matrix.height - (c.in-Some.i + 1) < c.args.rows.now.matrix.height - c.loop-i.from = omega (arith, c.in-Some.ensures.low, c.in-Some.ensures.below) in less

pub returns : goal.returns
returns c =
    spans_all c.args.rows.now c.loop-i.grow c.loop-i.from c.is_sound.ensures.entries c.loop-i.invariant.inside c.in_default.ensures c.loop-i.invariant.spans
