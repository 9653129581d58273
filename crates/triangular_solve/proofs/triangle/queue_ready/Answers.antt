use Rattle.std.proofs.Common.{◌≡◌, ◌<◌, ◌∙◌, length, set, slice_index, subst, inl, inr, arith}
use Rattle.std.proofs.lemmas.Bool.{cases_lt}
use Rattle.std.proofs.lemmas.List.{length-set}
use Rattle.triangular_solve.specs.Listing.{Queued}
use Rattle.triangular_solve.proofs.Marked.{mark_stays, mark_there}
use Rattle.triangular_solve.proofs.triangle.queue_ready.Goals as goal
use Rattle.triangular_solve.proofs.triangle.queue_ready.Goals.{then-waits-place-eq1, else-waits-place-eq1}

pub loop-place-preserved : goal.loop-place-preserved
loop-place-preserved c =
    let place = c.loop-place.place in
    let inv = c.loop-place.invariant in
    let queue = c.loop-place.queue in
    let inside : place < length queue = omega (arith, c.loop-place-test.true, inv.room) in
    elim c.if-waits-place-eq1.branch [
      | then-waits-place-eq1 w ↦ rw (w.queue-is, w.mark.ensures) record {
        room = length-set queue place 1 ∙ inv.room;
        covers = λ k l one. elim (cases_lt k place) [
          | inl less ↦ mark_stays queue place inside k (inv.covers k less one)
          | inr ge ↦ (let is : place ≡ k = omega arith in subst (λ j. Queued (set queue place 1) j) is (mark_there queue place inside))
        ];
      }
      | else-waits-place-eq1 w ↦ rw w.queue-is record {
        room = inv.room;
        covers = λ k l one. elim (cases_lt k place) [
          | inl less ↦ inv.covers k less one
          | inr ge ↦ absurd (let is : k ≡ place = omega arith in w.if-waits-place-eq1.false (subst (λ j. slice_index c.args.waits.now j ≡ 1) is one))
        ];
      }
    ]
