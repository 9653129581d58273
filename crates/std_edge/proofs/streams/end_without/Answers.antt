-- The line went to the error stream.
use Rattle.std.proofs.Common.{subst}
use Rattle.sms_text.specs.Writing.{Writes}
use Rattle.std_edge.specs.Edge.{line_without, sink_of}
use Rattle.std_edge.proofs.Telling.{sink_at_first}
use Rattle.std_edge.proofs.streams.end_without.Goals as goal

pub returns-clause-ends : goal.returns-clause-ends
returns-clause-ends g c =
    let contents = g.E.Write.contents in record {
      errors = sink_of contents c.tell.new.err;
      written = c.tell.result;
      says = subst (λ old. Writes c.tell.result (line_without c.args.reason) old (sink_of contents c.tell.new.err))
          (sink_at_first contents c.args.streams.errors _ c.new-err.ensures) c.tell.ensures;
      held = c.into_writer.ensures.holds;
      code_is = c.code.ensures;
    }
