-- The lines of the publications before k were added.
use Rattle.std.proofs.Common.{drop}
use Rattle.byte_streams.proofs.Added.{IsAdded}
use Rattle.sms_text.specs.Writing.{output}
use Rattle.run_trace.specs.TraceText.{publication_lines}
use Rattle.run_trace.proofs.writing.add_publications.Given as goal

abbrev pub invariant-loop-k : goal.invariant-loop-k
invariant-loop-k g l =
    IsAdded (publication_lines l.publications) (publication_lines (drop l.k l.publications)) (output l.fn.blocks (g.K.Sink.state l.fn.out)) (output l.blocks (g.K.Sink.state l.out))
