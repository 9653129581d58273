-- The replies so far were written.
use Rattle.std.proofs.Common.{take}
use Rattle.sms_text.specs.Stream.{Gained}
use Rattle.batch_solve.specs.BatchFound.{replies_text}
use Rattle.batch_solve.proofs.written_replies.write_replies.Given as goal

abbrev pub invariant-loop-reply : goal.invariant-loop-reply
invariant-loop-reply g l = Gained (replies_text (take l.reply-index l.replies)) (g.K.Sink.state l.initial.out) (g.K.Sink.state l.out)
