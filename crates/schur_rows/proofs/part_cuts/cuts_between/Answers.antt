use Rattle.std.proofs.Common.{◌≡◌, ◌+◌, ◌-◌, ◌∷◌, [], ◌++◌, ◌∙◌, ap, arith, subst}
use Rattle.schur_rows.specs.Parts.{ArePartCuts}
use Rattle.schur_rows.proofs.Cuts.{cuts_begin, cuts_more}
use Rattle.schur_rows.proofs.part_cuts.cuts_between.Goals as goal

pub loop-number-init : goal.loop-number-init
loop-number-init c = record {
  number = c.requires.some;
  inside = c.requires.order;
  cuts = cuts_begin c.args.from c.push.new.self.items (c.in_ok-push.ensures.items ∙ ap (λ cuts. cuts ++ c.args.from ∷ []) c.in_ok-cuts.ensures.items);
}

pub loop-number-preserved : goal.loop-number-preserved
loop-number-preserved c =
    let next : c.loop-number.number - 1 + 1 ≡ c.loop-number.number + 1 - 1 = omega (arith, c.loop-number.auto.number) in
    record {
      number = omega (arith, c.loop-number-test.true);
      inside = c.cut_behind-last.ensures.inside;
      cuts = subst (λ n. ArePartCuts c.args.from c.cut_behind-last.result n c.push-in-loop-number.new.self.items) next
          (cuts_more c.cut_behind-last.result c.loop-number.invariant.cuts c.cut_behind-last.ensures.later c.in_ok-push-2.ensures.items);
    }

pub returns : goal.returns
returns c =
    let all : c.loop-number.number - 1 + 1 ≡ c.args.count = omega (arith, c.loop-number.auto.number, c.loop-number.invariant.number, c.loop-number-test.false) in
    subst (λ n. ArePartCuts c.args.from c.args.to n c.push-2.new.self.items) all
    (cuts_more c.args.to c.loop-number.invariant.cuts c.loop-number.invariant.inside c.in_ok-push-3.ensures.items)
