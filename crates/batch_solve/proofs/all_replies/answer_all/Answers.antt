-- The slots that were filled, or those of no question.
use Rattle.std.proofs.Common.{◌≡◌, length, ap, ◌∙◌, arith}
use Rattle.std.proofs.lemmas.List.{length-replicate}
use Rattle.std.specs.Prelude.{None}
use Rattle.batch_solve.proofs.Slots.{slots_back, slots_empty}
use Rattle.batch_solve.proofs.all_replies.answer_all.Goals as goal
use Rattle.batch_solve.proofs.all_replies.answer_all.Goals.{then-questions-gt0+in_ok-desk+in_ok-team, else-questions-gt0}

pub complete-requires-clause-slots : goal.complete-requires-clause-slots
complete-requires-clause-slots g c = elim c.if-questions-gt0.branch [
  | then-questions-gt0+in_ok-desk+in_ok-team w ↦
      let all : length c.in_ok-slots.slots.items ≡ length c.args.questions.now = ap length c.in_ok-slots.ensures ∙ length-replicate (length c.args.questions.now) None in
      let e : length w.gather.new.slots ≡ c.in_ok-slots.slots.len = omega (arith, w.gather.ensures.long, all, c.in_ok-slots.slots.ok) in
      rw w.slots-is (slots_back _ _ _ _ _ e w.gather.ensures)
  | else-questions-gt0 w ↦ rw w.slots-is (slots_empty c.args.prepared.now c.args.questions.now c.in_ok-slots.slots.items c.in_ok-slots.ensures)
]
