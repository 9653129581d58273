use Rattle.std.proofs.Common.{◌≡◌, slice_index, subst, sym, ◌∙◌, ◌+◌, ◌≤◌, refl, arith}
use Rattle.std.specs.List.{Contains}
use Rattle.pivot_walks.proofs.Growing.{grows_trans, kept}
use Rattle.residue_words.proofs.Lists.{contains_at, place_in}
use Rattle.pivot_walks.proofs.Walking.{below_next}
use Rattle.pivot_walks.proofs.counted_marks.CountedMarks.add_others.Goals as goal

pub loop-k-preserved : goal.loop-k-preserved
loop-k-preserved g c =
    let inv = c.loop-k.invariant in
    let one = c.add_other.ensures in
    let cols = c.args.cols.now in
    let k = c.loop-k.k in
    let more = one.steps in
    let most = inv.most in record {
      width = one.width ∙ inv.width;
      grows = grows_trans inv.grows one.grows (λ j e. subst (Contains cols) (sym e) (contains_at cols k _ c.loop-k-test.true refl));
      all = below_next (λ t. Contains c.add_other.new.self.list (slice_index cols t)) k (λ t l. kept _ one.grows (inv.all t l)) one.has;
      most = omega arith;
      fewer = λ t l e. below_next (λ t. slice_index cols t ≡ c.args.c → c.add_other.new.steps + 1 ≤ c.args.steps.now + (k + 1)) k
          (λ t l e. let old = inv.fewer t l e in omega arith)
          (λ e. let free = one.free e in omega arith)
          t l e;
    }

pub add_other-requires-clause-marked : goal.add_other-requires-clause-marked
add_other-requires-clause-marked g c = kept _ c.loop-k.invariant.grows c.requires.marked

pub returns-clause-all : goal.returns-clause-all
returns-clause-all g c = λ j m.
    let t = place_in c.args.cols.now j m in
    subst (Contains c.loop-k.self.list) t.2 (c.loop-k.invariant.all t.0 (omega (arith, t.1)))

pub returns-clause-steps : goal.returns-clause-steps
returns-clause-steps g c = λ m.
    let t = place_in c.args.cols.now c.args.c m in
    let few = c.loop-k.invariant.fewer t.0 (omega (arith, t.1)) t.2 in
    omega arith
