use Rattle.std.proofs.Common.{◌∙◌, ⊎_elim, slice_index, sym, ap, arith}
use Rattle.lead_rows.proofs.Touched.{taken_falls}
use Rattle.triangular_solve.proofs.Marked.{none_marked, taken_kept, taken_least, taken_long, taken_others, taken_there}
use Rattle.triangular_solve.proofs.triangle.next_ready.Goals as goal

pub bounds-waits-place : goal.bounds-waits-place
bounds-waits-place c = omega (arith, c.in-Some.ensures.some.inside, c.loop-place.invariant.room, c.requires)

pub returns-then-waits-place-eq1-clause-some : goal.returns-then-waits-place-eq1-clause-some
returns-then-waits-place-eq1-clause-some c =
    let taken = c.in-Some.ensures.some in
    let inv = c.loop-place.invariant in
    record {
      room = taken_long taken ∙ inv.room;
      here = inv.kept c.in-Some.place (taken_there taken);
      ready = c.if-waits-place-eq1.true;
      least = λ d m one. taken_least taken d (inv.ready d m one);
      kept = λ d m. inv.kept d (taken_kept taken d m);
      others = λ d m one. taken_others taken d (inv.ready d m one);
    }

pub loop-place-smaller : goal.loop-place-smaller
loop-place-smaller c = taken_falls c.in-Some.ensures.some

pub loop-place-preserved : goal.loop-place-preserved
loop-place-preserved c =
    let taken = c.in-Some.ensures.some in
    let inv = c.loop-place.invariant in
    record {
      room = taken_long taken ∙ inv.room;
      kept = λ d m. inv.kept d (taken_kept taken d m);
      ready = λ d m one. ⊎_elim
          (λ e. absurd (c.if-waits-place-eq1.false (sym (ap (slice_index c.args.waits.now) e) ∙ one)))
          (λ t. t)
          (taken_others taken d (inv.ready d m one));
    }

pub returns-clause-none : goal.returns-clause-none
returns-clause-none c = λ k m one. none_marked c.loop-place.queue c.in_default.ensures.none.1 k (c.loop-place.invariant.ready k m one)
