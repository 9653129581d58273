-- The batch is that of the top call on the adapters.
use Rattle.std.proofs.Common.{ap, refl, subst}
use Rattle.sms_text.specs.declared.reader.TheConstants.{LARGEST_INPUT}
use Rattle.spasm_words.specs.Options.{bytes_of}
use Rattle.spasm_run.specs.Ran.{Run}
use Rattle.batch_solve.specs.BatchStatus.{BatchSaysWhy}
use Rattle.std_edge.specs.Edge.{sink_of, source_of}
use Rattle.std_edge.proofs.Telling.{keeps_known, sink_at_first, source_at_first}
use Rattle.spasm_batch.proofs.Ending.{whole_or_fault}
use Rattle.spasm_batch.proofs.run_lent.Goals as goal

pub returns : goal.returns
returns g c =
    let remaining = g.I.Read.remaining in
    let contents = g.O.Write.contents in
    let contents_of_errors = g.E.Write.contents in
    let out = sink_at_first contents c.args.streams.output _ c.new-out.ensures in
    let run : Run = record {
      words = bytes_of c.args.words.now;
      limit = LARGEST_INPUT;
      source = source_of remaining c.new-source.result;
      source_after = source_of remaining c.run_batch-status.new.source;
      out = sink_of contents c.new-out.result;
      out_after = sink_of contents c.run_batch-status.new.out;
    } in record {
      run = run;
      status = c.run_batch-status.result;
      of_words = refl;
      limit = refl;
      source = source_at_first remaining c.args.streams.input _ c.new-source.ensures;
      out = out;
      ran = c.run_batch-status.ensures.ran;
      code_is = c.code.ensures;
      whole = whole_or_fault run c.run_batch-status.ensures.ran.input c.run_batch-status.result c.run_batch-status.ensures.ran.cause (ap (λ o. o.faults) out);
      errors = sink_of contents_of_errors c.run_batch-status.new.err;
      says = subst (λ old. BatchSaysWhy c.run_batch-status.result old (sink_of contents_of_errors c.run_batch-status.new.err))
          (sink_at_first contents_of_errors c.args.streams.errors _ c.new-err.ensures) c.run_batch-status.ensures.err;
      left = record {
        input = rw c.into_reader.ensures (keeps_known (remaining c.run_batch-status.new.source.first) (remaining c.run_batch-status.new.source.stream));
        output = c.into_writer.ensures.holds;
        errors = c.into_writer-2.ensures.holds;
      };
    }
