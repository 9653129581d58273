-- Reply by reply.
use Rattle.batch_solve.proofs.BatchWriting.{all_written, more_written, none_written, part_written}
use Rattle.batch_solve.proofs.written_replies.write_replies.Goals as goal

pub loop-reply-init : goal.loop-reply-init
loop-reply-init g c = none_written c.args.replies.now _

pub loop-reply-preserved : goal.loop-reply-preserved
loop-reply-preserved g c =
    more_written c.args.replies.now c.loop-reply.reply-index c.reply-item.result _ _ _ c.loop-reply-test.true c.reply-item.is c.loop-reply.invariant c.in_ok-write_reply.ensures

pub returns-in_err-write_reply : goal.returns-in_err-write_reply
returns-in_err-write_reply g c =
    part_written c.args.replies.now c.loop-reply.reply-index c.reply-item.result _ _ _ c.in_err-write_reply.field-0.0 _ c.from_residual.ensures.0 c.loop-reply-test.true c.reply-item.is
    c.loop-reply.invariant c.in_err-write_reply.ensures

pub returns : goal.returns
returns g c = all_written c.args.replies.now c.loop-reply.reply-index _ _ c.loop-reply-test.false c.loop-reply.invariant
