use Rattle.std.proofs.Common.{Some, subst}
use Rattle.kernel_solve.specs.declared.prepared.Reply.{Reply}
use Rattle.batch_solve.specs.Replies.{RepliesAt}
use Rattle.batch_solve.proofs.Slots.{slots_set, some_is}
use Rattle.batch_solve.proofs.all_replies.fill_slot.Goals as goal

pub returns-then-is_none : goal.returns-then-is_none
returns-then-is_none c =
    let q = c.args.prepared.now in
    let questions = c.args.questions.now in
    let a = c.args.answered in
    slots_set q questions c.args.slots.now a.question (Some a.reply) c.requires.slots (λ other e. subst (λ (r : Reply). RepliesAt q questions a.question r) (some_is a.reply other e) c.requires.answered.reply)
