-- All replies are written, or the fault is told.
use Rattle.std.proofs.Common.{List, Ok, Err, subst}
use Rattle.sms_text.specs.Writing.{Writes}
use Rattle.kernel_solve.specs.declared.prepared.Reply.{Reply}
use Rattle.batch_solve.specs.BatchFound.{replies_text}
use Rattle.batch_solve.proofs.BatchWhole.{part_written, whole_written}
use Rattle.batch_solve.proofs.batch_run.write_found.Goals as goal

pub returns-in-Ok-write_replies-clause-written : goal.returns-in-Ok-write_replies-clause-written
returns-in-Ok-write_replies-clause-written g c =
    let P : List Reply → Type 0 = λ rs. Writes (Ok tt) (replies_text rs) (g.K.Sink.state c.args.out.now) (g.K.Sink.state c.write_replies.new.out) in
    whole_written _ _ c.in-Ok.is (subst P c.deref.ensures.value c.in-Ok-write_replies.ensures)

pub returns-in-Ok-clause-written : goal.returns-in-Ok-clause-written
returns-in-Ok-clause-written g c =
    let P : List Reply → Type 0 = λ rs. Writes (Err c.in-Err-write_replies.field-0) (replies_text rs) (g.K.Sink.state c.args.out.now) (g.K.Sink.state c.write_replies.new.out) in
    part_written _ _ c.in-Ok.is (subst P c.deref.ensures.value c.in-Err-write_replies.ensures)
