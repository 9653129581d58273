-- The run is that of the top call on the adapters.
use Rattle.std.proofs.Common.{ap, refl, subst}
use Rattle.sms_text.specs.declared.reader.TheConstants.{LARGEST_INPUT}
use Rattle.spasm_words.specs.Options.{bytes_of}
use Rattle.spasm_run.specs.Ran.{Run}
use Rattle.spasm_run.specs.Status.{SaysWhy}
use Rattle.std_edge.specs.Edge.{sink_of, source_of}
use Rattle.std_edge.proofs.Telling.{keeps_known, sink_at_first, source_at_first}
use Rattle.spasm_main.proofs.Ending.{whole_or_fault}
use Rattle.spasm_main.proofs.run_lent.Goals as goal

pub returns : goal.returns
returns g c =
    let remaining = g.I.Read.remaining in
    let contents = g.O.Write.contents in
    let contents_of_errors = g.E.Write.contents in
    let out = sink_at_first contents c.args.streams.output _ c.new-out.ensures in
    let run : Run = record {
      words = bytes_of c.args.words.now;
      limit = LARGEST_INPUT;
      source = source_of remaining c.new-source.result;
      source_after = source_of remaining c.run-status.new.source;
      out = sink_of contents c.new-out.result;
      out_after = sink_of contents c.run-status.new.out;
    } in record {
      run = run;
      status = c.run-status.result;
      of_words = refl;
      limit = refl;
      source = source_at_first remaining c.args.streams.input _ c.new-source.ensures;
      out = out;
      ran = c.run-status.ensures.ran;
      code_is = c.code.ensures;
      whole = whole_or_fault run c.run-status.ensures.ran.input c.run-status.result c.run-status.ensures.ran.cause (ap (λ o. o.faults) out);
      errors = sink_of contents_of_errors c.run-status.new.err;
      says = subst (λ old. SaysWhy c.run-status.result old (sink_of contents_of_errors c.run-status.new.err))
          (sink_at_first contents_of_errors c.args.streams.errors _ c.new-err.ensures) c.run-status.ensures.err;
      left = record {
        input = rw c.into_reader.ensures (keeps_known (remaining c.run-status.new.source.first) (remaining c.run-status.new.source.stream));
        output = c.into_writer.ensures.holds;
        errors = c.into_writer-2.ensures.holds;
      };
    }
