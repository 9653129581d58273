use Rattle.std.proofs.Common.{List, ◌<◌, ◌+◌, ◌∙◌, length, ap, arith, subst, sym}
use Rattle.std.proofs.lemmas.List.{get_or_default}
use Rattle.fl_pivots.specs.declared.sparsest.Sparsest.{Sparsest}
use Rattle.fl_pivots.specs.Sparsest.{AreSparsest}
use Rattle.fl_pivots.proofs.Listing.{weight_small}
use Rattle.fl_pivots.proofs.Choosing.{choice_passes, no_sparser_comes, sparser_comes}
use Rattle.fl_pivots.proofs.sparsest.sparsest_rows.Goals as goal
use Rattle.fl_pivots.proofs.sparsest.sparsest_rows.Goals.{then-beginning-index, else-beginning-index}

pub loop-i-preserved : goal.loop-i-preserved
loop-i-preserved c =
    let A = c.args.rows.now.matrix in
    let i = c.in-Some.i in
    let old = c.loop-i.table.items in
    let b = c.of-beginning.result in
    let here = c.index.result.now in
    let passed = choice_passes c.is_sound.ensures.entries c.loop-i.invariant.table c.in-Some.ensures.low c.in-Some.ensures.between in
    record {
      inside = omega (arith, c.in-Some.ensures.below);
      table = elim c.if-beginning-index.branch [
        | then-beginning-index w ↦ subst (λ (xs : List Sparsest). AreSparsest A (i + 1) xs) (sym (ap (λ t. t.items) w.table-is)) (sparser_comes passed c.of-beginning.ensures here (omega (arith, w.if-beginning-index.true, ap (λ (x : Sparsest). x.weight) c.index.ensures)))
        | else-beginning-index w ↦ subst (λ (xs : List Sparsest). AreSparsest A (i + 1) xs) (sym (ap (λ t. t.items) w.table-is)) (no_sparser_comes passed c.of-beginning.ensures
            (omega (arith, c.of-beginning.ensures.weight, weight_small c.is_sound.ensures.entries i c.in-Some.ensures.below, c.is_sound.ensures.width))
            (λ d.
            let low : b.column < length old = omega (arith, c.of-beginning.ensures.begins.0.1, passed.long) in
            omega (arith, w.if-beginning-index.false, ap (λ (x : Sparsest). x.weight) (c.index.ensures ∙ get_or_default old b.column here d low))))
      ];
    }

pub returns : goal.returns
returns c = choice_passes c.is_sound.ensures.entries c.loop-i.invariant.table c.loop-i.invariant.inside c.in_default.ensures
