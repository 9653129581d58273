use Rattle.std.proofs.Common.{◌≡◌, arith, subst, sym}
use Rattle.std.proofs.lemmas.Result.{on_ok_weaker}
use Rattle.schur_rows.specs.Parts.{cut_at}
use Rattle.schur_rows.proofs.Dealt.{cut_all, cut_none}
use Rattle.schur_rows.proofs.workers.append_stages.Goals as goal

pub loop-begun-init : goal.loop-begun-init
loop-begun-init g c =
    let h = c.requires.made in record {
      joined = omega arith;
      begun = omega arith;
      parts = λ k d l. absurd (omega (arith, l, c.new-parts.ensures.len));
      made = (h.0, omega (arith, h.1, cut_none c.requires.deal));
    }

pub loop-begun-preserved : goal.loop-begun-preserved
loop-begun-preserved g c = record {
  joined = omega (arith, c.requires.deal.some, c.loop-begun-test.true);
  begun = omega arith;
  parts = c.in_ok-parts.ensures.parts;
  made = c.in_ok-parts.ensures.made;
}

pub returns : goal.returns
returns g c =
    let end : c.loop-begun.begun ≡ c.args.deal.count = omega (arith, c.loop-begun-test.false, c.loop-begun.invariant.begun) in
    on_ok_weaker c.join_parts.result (λ all. (all.0, omega (arith, all.1, subst (λ n. cut_at c.args.deal n ≡ c.args.deal.to) (sym end) (cut_all c.requires.deal)))) c.join_parts.ensures
