use Rattle.run_trace.proofs.WrittenTraces.{reads_back}
use Rattle.run_trace.proofs.laws.written_trace_reads_back.Goals as goal

pub returns : goal.returns
returns c = reads_back
