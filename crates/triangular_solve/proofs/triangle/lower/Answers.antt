use Rattle.std.proofs.Common.{ℕ, List, ◌≡◌, ◌-◌, ◌∙◌, slice_index, slice_set, subst, ap, sym, ⊎_elim, inl, inr, arith}
use Rattle.std.proofs.lemmas.Bool.{cases_eq}
use Rattle.std.proofs.lemmas.List.{get_or-set_other}
use Rattle.residue_words.proofs.Lists.{contains_at}
use Rattle.triangular_solve.specs.Listing.{Queued}
use Rattle.triangular_solve.proofs.Changing.{changed_at, changed_comes, changed_passes, place_is, touched_all, touched_cases, unchanged_yet}
use Rattle.triangular_solve.proofs.triangle.lower.Goals as goal
use Rattle.triangular_solve.proofs.triangle.lower.Goals.{in-Some, in_default}

pub lower_at-requires-clause-room : goal.lower_at-requires-clause-room
lower_at-requires-clause-room c = omega (arith, c.in-Some.ensures.0, c.loop-column.invariant.room, c.requires.room)

pub lower_at-requires-clause-some : goal.lower_at-requires-clause-some
lower_at-requires-clause-some c =
    let cols = c.args.cols.now in
    let columns = c.args.columns.now in
    let l = c.loop-column-test.true in
    let place = c.in-Some.place in
    let same = unchanged_yet cols l columns c.loop-column.invariant.changed c.requires.rising c.requires.pivotal place c.in-Some.ensures.0 c.in-Some.ensures.1 in
    omega (arith, same, c.requires.some place c.in-Some.ensures.0 (contains_at cols c.loop-column.column-index (slice_index columns place) l (sym c.in-Some.ensures.1)))

pub loop-column-preserved : goal.loop-column-preserved
loop-column-preserved c =
    let cols = c.args.cols.now in
    let columns = c.args.columns.now in
    let l = c.loop-column-test.true in
    let inv = c.loop-column.invariant in
    elim c.match-find.branch [
      | in-Some w ↦
          let place = w.in-Some.place in
          let inside = w.in-Some.ensures.0 in
          let at = w.in-Some.ensures.1 in
          let same = unchanged_yet cols l columns inv.changed c.requires.rising c.requires.pivotal place inside at in
          let some = c.requires.some place inside (contains_at cols c.loop-column.column-index (slice_index columns place) l (sym at)) in
          let new : w.lower_at.new.waits ≡ slice_set c.loop-column.waits place (slice_index c.loop-column.waits place - 1) = w.lower_at.ensures.waits in
          rw (w.waits-is, w.queue-is) record {
            changed = rw new (changed_comes cols l columns inv.changed c.requires.rising c.requires.pivotal place inside at (slice_index c.loop-column.waits place - 1)
                (omega (arith, c.loop-column.auto.waits, c.requires.many, inside)) (omega arith));
            queued = λ k m. w.lower_at.ensures.queued k (inv.queued k m);
            room = w.lower_at.ensures.room ∙ inv.room;
            pushed = λ k lk t one. elim (cases_eq k place) [
              | inl e ↦ subst (λ j. Queued w.lower_at.new.queue j) (sym e) (w.lower_at.ensures.pushed (subst (λ j. slice_index w.lower_at.new.waits j ≡ 1) e one))
              | inr ne ↦
                  let was : slice_index c.loop-column.waits k ≡ 1 =
                  sym (get_or-set_other c.loop-column.waits place k (slice_index c.loop-column.waits place - 1) 0 ne) ∙ sym (ap (λ (xs : List ℕ). slice_index xs k) new) ∙ one in
                  w.lower_at.ensures.queued k (⊎_elim
                  (λ old. inv.pushed k lk old was)
                  (λ e. absurd (ne (place_is cols l columns inv.changed c.requires.rising c.requires.pivotal place inside at k lk e)))
                  (touched_cases cols l columns k t))
            ];
          }
      | in_default w ↦ rw (w.waits-is, w.queue-is) record {
        changed = changed_passes cols l columns inv.changed w.in_default.ensures;
        queued = inv.queued;
        room = inv.room;
        pushed = λ k lk t one. ⊎_elim
            (λ old. inv.pushed k lk old one)
            (λ e. absurd (w.in_default.ensures (contains_at columns k (slice_index cols c.loop-column.column-index) lk (sym e))))
            (touched_cases cols l columns k t);
      }
    ]

pub returns-clause-lowered : goal.returns-clause-lowered
returns-clause-lowered c = changed_at c.args.columns.now c.args.cols.now (omega (arith, c.loop-column-test.false)) c.loop-column.invariant.changed

pub returns-clause-pushed : goal.returns-clause-pushed
returns-clause-pushed c = λ k l m one. c.loop-column.invariant.pushed k l (touched_all c.args.columns.now c.args.cols.now (omega (arith, c.loop-column-test.false)) k m) one
