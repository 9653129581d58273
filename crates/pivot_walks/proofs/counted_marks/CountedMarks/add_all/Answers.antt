use Rattle.std.proofs.Common.{slice_index, subst, sym, ◌∙◌, refl, arith}
use Rattle.std.specs.List.{Contains}
use Rattle.pivot_walks.proofs.Growing.{grows_trans, kept}
use Rattle.residue_words.proofs.Lists.{contains_at, place_in}
use Rattle.pivot_walks.proofs.Walking.{below_next}
use Rattle.pivot_walks.proofs.counted_marks.CountedMarks.add_all.Goals as goal

pub loop-k-preserved : goal.loop-k-preserved
loop-k-preserved g c =
    let inv = c.loop-k.invariant in
    let cols = c.args.cols.now in (
      c.add.ensures.width ∙ inv.0,
      grows_trans inv.1 c.add.ensures.grows (λ j e. subst (Contains cols) (sym e) (contains_at cols c.loop-k.k _ c.loop-k-test.true refl)),
      (let e = c.add.ensures.steps in omega (arith, e, inv.2)),
      below_next (λ t. Contains c.add.new.self.list (slice_index cols t)) c.loop-k.k (λ t l. kept _ c.add.ensures.grows (inv.3 t l)) c.add.ensures.has,
    )

pub returns-clause-all : goal.returns-clause-all
returns-clause-all g c = λ j m.
    let t = place_in c.args.cols.now j m in
    subst (Contains c.loop-k.self.list) t.2 (c.loop-k.invariant.3 t.0 (omega (arith, t.1)))
