use Rattle.std.proofs.Common.{subst, sym, List}
use Rattle.std.specs.Prelude.{All}
use Rattle.std.proofs.lemmas.List.Elements.{All-push}
use Rattle.sparse_rows.specs.Rows.{ResidueMatrix}
use Rattle.kernel_solve.specs.Prepared.{IsReply}
use Rattle.batch_solve.specs.Replies.{IsAnsweredAt}
use Rattle.batch_solve.specs.declared.worker.Answered.{Answered}
use Rattle.batch_solve.proofs.Slots.{reply_at}
use Rattle.batch_solve.proofs.worker.Worker.keep_answer.Goals as goal

pub returns-clause-kept : goal.returns-clause-kept
returns-clause-kept c =
    let P : Answered → Type 0 = IsAnsweredAt c.args.prepared.now c.args.questions.now in
    let one : Answered = record { question = c.args.question; reply = c.in_ok-reply.reply } in
    subst (λ (l : List Answered). All P l) (sym c.in_ok-push.ensures.items)
    (All-push P c.args.self.now.answered.items one c.requires.kept (record {
      inside = c.requires.inside;
      reply = reply_at c.args.prepared.now c.args.questions.now c.args.question c.index-questions-question.result c.in_ok-reply.reply c.requires.inside
          (subst (λ (x : ResidueMatrix). IsReply c.args.prepared.now x.matrix c.in_ok-reply.reply) c.index-questions-question.is c.in_ok-reply.ensures);
    }))
