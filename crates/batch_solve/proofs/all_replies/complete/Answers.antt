use Rattle.std.proofs.Common.{◌≡◌, ◌+◌, List, length, arith, subst, sym, ◌∙◌}
use Rattle.std.specs.Prelude.{IfSome}
use Rattle.sparse_rows.specs.Rows.{ResidueMatrix}
use Rattle.kernel_solve.specs.Prepared.{IsReply}
use Rattle.kernel_solve.specs.declared.prepared.Reply.{Reply}
use Rattle.batch_solve.specs.Replies.{IsQuestion}
use Rattle.batch_solve.proofs.Slots.{AreFirst, first_all, first_more, first_none, found_at, none_isnt, reply_at, slots_set}
use Rattle.batch_solve.proofs.all_replies.complete.Goals as goal

pub found_or_answered-requires-clause-found : goal.found_or_answered-requires-clause-found
found_or_answered-requires-clause-found c =
    let q = c.args.prepared.now in
    let b : ResidueMatrix = c.index-questions-k.result in
    subst (λ (x : ResidueMatrix). IfSome c.take-found.result (IsReply q x.matrix)) (sym c.index-questions-k.is)
    (found_at q c.args.questions.now c.loop-k.slots.items c.loop-k.k b _ c.take-found.result c.loop-k.invariant.0 c.loop-k-test.true (c.take-found.ensures.value ∙ c.index_mut.ensures.value))

pub found_or_answered-requires-clause-question : goal.found_or_answered-requires-clause-question
found_or_answered-requires-clause-question c =
    subst (λ (x : ResidueMatrix). IsQuestion c.args.prepared.now x) (sym c.index-questions-k.is) (c.requires.questions c.loop-k.k c.index-questions-k.result c.loop-k-test.true)

pub loop-k-init : goal.loop-k-init
loop-k-init c = (c.requires.slots, first_none c.args.prepared.now c.args.questions.now c.in_ok-replies.replies.items c.in_ok-replies.ensures.items)

pub loop-k-preserved : goal.loop-k-preserved
loop-k-preserved c =
    let q = c.args.prepared.now in
    let questions = c.args.questions.now in
    let k = c.loop-k.k in
    let reply = c.in_ok-reply.reply in (
      slots_set q questions c.loop-k.slots.items k c.take-found.new.self c.loop-k.invariant.0 (λ other e. absurd (none_isnt other (sym c.take-found.ensures.after ∙ e))),
      subst (λ (l : List Reply). AreFirst q questions (k + 1) l) (sym c.in_ok-push.ensures.items) (first_more q questions k c.loop-k.replies.items reply c.loop-k.invariant.1
          (reply_at q questions k c.index-questions-k.result reply c.loop-k-test.true (subst (λ (x : ResidueMatrix). IsReply q x.matrix reply) c.index-questions-k.is c.in_ok-reply.ensures))),
    )

pub returns : goal.returns
returns c =
    let q = c.args.prepared.now in
    let questions = c.args.questions.now in
    let whole : c.loop-k.k ≡ length questions = let a = c.loop-k-test.false in let b = c.loop-k.auto.k-end in omega arith in
    first_all q questions c.loop-k.replies.items (subst (λ n. AreFirst q questions n c.loop-k.replies.items) whole c.loop-k.invariant.1)
