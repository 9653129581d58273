use Rattle.std.proofs.Common.{◌≤◌, slice_index, subst, sym, ap, ◌∙◌, refl, arith}
use Rattle.std.specs.List.{Contains}
use Rattle.pivot_walks.proofs.Growing.{grows_trans, kept}
use Rattle.residue_words.proofs.Lists.{contains_at, place_in}
use Rattle.pivot_walks.proofs.Walking.{below_next}
use Rattle.pivot_walks.proofs.leveled_walk.add_all_low.Goals as goal

pub loop-k-preserved : goal.loop-k-preserved
loop-k-preserved c =
    let inv = c.loop-k.invariant in
    let cols = c.args.cols.now in
    let levels = c.args.levels.now in (
      c.add_low.ensures.width ∙ inv.0,
      grows_trans inv.1 c.add_low.ensures.grows (λ j e. subst (Contains cols) (sym e) (contains_at cols c.loop-k.k _ c.loop-k-test.true refl)),
      below_next (λ t. slice_index levels (slice_index cols t) ≤ c.args.bound → Contains c.add_low.new.marks.list (slice_index cols t)) c.loop-k.k (λ t l low. kept _ c.add_low.ensures.grows (inv.2 t l low)) c.add_low.ensures.has,
    )

pub returns-clause-all : goal.returns-clause-all
returns-clause-all c = λ j m low.
    let t = place_in c.args.cols.now j m in
    subst (Contains c.loop-k.marks.list) t.2 (c.loop-k.invariant.2 t.0 (omega (arith, t.1)) (omega (arith, low, ap (slice_index c.args.levels.now) t.2)))
